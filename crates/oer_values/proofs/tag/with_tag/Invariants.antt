use Rattle.std.proofs.Common.{◌≡◌, false, drop, take}
use Rattle.oer_model.specs.AsnType.{no_alternatives}
use Rattle.oer_model.specs.Constraints.{has_tag}
use Rattle.oer_values.specs.Lookup.{first_with}
use Rattle.oer_values.specs.ShapeView.{root_of}
use Rattle.oer_values.proofs.tag.with_tag.Given as goal

abbrev pub invariant-loop-alternative : goal.invariant-loop-alternative
invariant-loop-alternative l = record {
  is : first_with l.tag (drop l.alternative-index l.alternatives) ≡ first_with l.tag l.alternatives;
  none : has_tag l.initial.tag (root_of (take l.alternative-index l.initial.alternatives) no_alternatives) ≡ false;
}

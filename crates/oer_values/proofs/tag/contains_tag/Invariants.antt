use Rattle.std.proofs.Common.{◌≡◌, drop}
use Rattle.oer_model.specs.AsnType.{no_alternatives}
use Rattle.oer_model.specs.Constraints.{has_tag}
use Rattle.oer_values.specs.ShapeView.{root_of}
use Rattle.oer_values.proofs.tag.contains_tag.Given as goal

abbrev pub invariant-loop-alternative : goal.invariant-loop-alternative
invariant-loop-alternative l = has_tag l.tag (root_of (drop l.alternative-index l.alternatives) no_alternatives) ≡ has_tag l.tag (root_of l.alternatives no_alternatives)

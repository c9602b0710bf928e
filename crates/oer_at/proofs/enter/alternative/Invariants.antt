use Rattle.std.proofs.Common.{◌≡◌, drop}
use Rattle.oer_model.specs.AsnType.{Alternatives}
use Rattle.oer_values.specs.ShapeView.{later_of, root_of}
use Rattle.oer_at.specs.Hops.{find_alternative}
use Rattle.oer_at.proofs.enter.alternative.Given as goal

-- the name isn't among those before
abbrev pub invariant-loop-alternative : goal.invariant-loop-alternative
invariant-loop-alternative l = record {
  root : (after : Alternatives) → find_alternative (root_of l.alternatives after) l.name ≡ find_alternative (root_of (drop l.alternative-index l.alternatives) after) l.name;
  later : find_alternative (later_of l.initial.alternatives) l.initial.name ≡ find_alternative (later_of (drop l.alternative-index l.initial.alternatives)) l.initial.name;
}

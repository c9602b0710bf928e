use Rattle.std.proofs.Common.{◌≡◌, drop}
use Rattle.oer_model.specs.AsnType.{Alternatives}
use Rattle.oer_values.specs.ShapeView.{later_of, root_of}
use Rattle.oer_json_places.specs.Next.{alternative_named}
use Rattle.oer_json_places.proofs.next.alternative.Given as goal

-- the name isn't among those before
abbrev pub invariant-loop-alternative : goal.invariant-loop-alternative
invariant-loop-alternative l = record {
  root : (after : Alternatives)
      → alternative_named (root_of l.alternatives after) l.name ≡ alternative_named (root_of
      (drop l.alternative-index l.alternatives) after) l.name;
  later : alternative_named (later_of l.initial.alternatives) l.initial.name ≡ alternative_named (later_of
      (drop l.alternative-index l.initial.alternatives)) l.initial.name;
}

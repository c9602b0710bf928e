use Rattle.std.proofs.Common.{◌↔◌, ◌≤◌, drop}
use Rattle.oer_model.specs.AsnType.{no_alternatives}
use Rattle.oer_model.specs.WellFormed.{fields_depth, additions_depth, alternatives_depth}
use Rattle.oer_values.specs.ShapeView.{fields_of, additions_of, root_of}
use Rattle.oer_types.proofs.depth.+depth.Given as goal

abbrev pub invariant-are_fields_within-loop-field : goal.invariant-are_fields_within-loop-field
invariant-are_fields_within-loop-field l = fields_depth (fields_of (drop l.field-index l.fields)) ≤ l.levels ↔ fields_depth (fields_of l.fields) ≤ l.levels

abbrev pub invariant-are_additions_within-loop-addition : goal.invariant-are_additions_within-loop-addition
invariant-are_additions_within-loop-addition l = additions_depth (additions_of (drop l.addition-index l.additions)) ≤ l.levels ↔ additions_depth (additions_of l.additions) ≤ l.levels

abbrev pub invariant-are_alternatives_within-loop-alt : goal.invariant-are_alternatives_within-loop-alt
invariant-are_alternatives_within-loop-alt l = alternatives_depth (root_of (drop l.alt-index l.alts) no_alternatives) ≤ l.levels ↔ alternatives_depth (root_of l.alts no_alternatives) ≤ l.levels

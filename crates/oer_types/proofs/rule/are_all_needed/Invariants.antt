use Rattle.std.proofs.Common.{◌≡◌, ◌==◌, drop}
use Rattle.oer_model.specs.Constraints.{optional}
use Rattle.oer_values.specs.ShapeView.{fields_of}
use Rattle.oer_types.proofs.rule.are_all_needed.Given as goal

abbrev pub invariant-loop-field : goal.invariant-loop-field
invariant-loop-field l = (optional (fields_of (drop l.field-index l.fields)) == 0) ≡ (optional (fields_of l.fields) == 0)

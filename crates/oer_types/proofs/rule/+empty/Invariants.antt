use Rattle.std.proofs.Common.{◌≡◌, drop}
use Rattle.oer_model.specs.Constraints.{may_all_be_empty}
use Rattle.oer_values.specs.ShapeView.{fields_of}
use Rattle.oer_types.proofs.rule.+empty.Given as goal

abbrev pub invariant-may_all_be_empty-loop-field : goal.invariant-may_all_be_empty-loop-field
invariant-may_all_be_empty-loop-field l = may_all_be_empty (fields_of (drop l.field-index l.fields)) ≡ may_all_be_empty (fields_of l.fields)

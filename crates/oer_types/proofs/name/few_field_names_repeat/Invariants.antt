use Rattle.std.proofs.Common.{◌≡◌, ◌++◌, length}
use Rattle.oer_model.specs.FaultTest.{names_repeat}
use Rattle.oer_values.specs.ShapeView.{fields_of, additions_of}
use Rattle.oer_model.specs.WellFormed.{field_names, addition_names}
use Rattle.oer_types.proofs.name.few_field_names_repeat.Given as goal

abbrev pub invariant-loop-field : goal.invariant-loop-field
invariant-loop-field l = names_repeat (field_names (fields_of l.rest) ++ addition_names (additions_of l.additions)) ≡ names_repeat (field_names (fields_of l.fields) ++ addition_names (additions_of l.additions))

abbrev pub decreases-loop-field : goal.decreases-loop-field
decreases-loop-field l = length l.rest

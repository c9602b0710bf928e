use Rattle.std.proofs.Common.{◌≡◌, drop}
use Rattle.oer_model.specs.FaultTest.{any_bad_name}
use Rattle.oer_values.specs.ShapeView.{fields_of}
use Rattle.oer_model.specs.WellFormed.{field_names}
use Rattle.oer_types.proofs.name.has_bad_field_name.Given as goal

abbrev pub invariant-loop-field : goal.invariant-loop-field
invariant-loop-field l = any_bad_name (field_names (fields_of (drop l.field-index l.fields))) ≡ any_bad_name (field_names (fields_of l.fields))

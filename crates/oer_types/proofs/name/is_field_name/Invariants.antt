use Rattle.std.proofs.Common.{◌≡◌, drop, string_bytes}
use Rattle.oer_model.specs.FaultTest.{contains_name}
use Rattle.oer_values.specs.ShapeView.{fields_of}
use Rattle.oer_model.specs.WellFormed.{field_names}
use Rattle.oer_types.proofs.name.is_field_name.Given as goal

abbrev pub invariant-loop-field : goal.invariant-loop-field
invariant-loop-field l = contains_name (string_bytes l.name) (field_names (fields_of (drop l.field-index l.fields))) ≡ contains_name (string_bytes l.name) (field_names (fields_of l.fields))

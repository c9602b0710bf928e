use Rattle.std.proofs.Common.{◌≡◌, ◌++◌, drop}
use Rattle.oer_model.specs.WellFormed.{field_names}
use Rattle.oer_values.specs.ShapeView.{fields_of}
use Rattle.oer_explain.specs.JsonNames.{texts_behind}
use Rattle.oer_explain.proofs.json_names.push_fields.Given as goal

-- what is there and what is left are the whole
abbrev pub invariant-loop-field : goal.invariant-loop-field
invariant-loop-field l = texts_behind l.fn.names.items ++ field_names (fields_of l.fields)
    ≡ texts_behind l.names.items ++ field_names (fields_of (drop l.field-index l.fields))

use Rattle.std.proofs.Common.{◌≡◌, drop}
use Rattle.oer_values.specs.ShapeView.{fields_of}
use Rattle.oer_model.specs.WellFormed.{field_names}
use Rattle.oer_json.specs.Keys.{is_among}
use Rattle.oer_json_places.proofs.keys.is_field.Given as goal

-- the key isn't among the names before
abbrev pub invariant-loop-field : goal.invariant-loop-field
invariant-loop-field l = is_among (field_names (fields_of l.fields)) l.key ≡ is_among (field_names (fields_of
    (drop l.field-index l.fields))) l.key

use Rattle.std.proofs.Common.{◌≡◌, map, string_bytes}
use Rattle.oer_values.specs.ShapeView.{fields_of}
use Rattle.oer_model.specs.WellFormed.{field_names}
use Rattle.serde_json.specs.View.{members_view}
use Rattle.oer_json.specs.Keys.{all_pass, is_among, keys_of}
use Rattle.oer_json.proofs.keys.are_fields.Given as goal

-- the keys left decide
abbrev pub invariant-loop-key : goal.invariant-loop-key
invariant-loop-key l = all_pass (is_among (field_names (fields_of l.fields))) (keys_of (members_view l.map.entries)) ≡ all_pass (is_among (field_names (fields_of l.fields))) (map string_bytes l.key-iterator)

use Rattle.std.proofs.Common.{◌≡◌, map, string_bytes}
use Rattle.oer_values.specs.ShapeView.{additions_of, fields_of}
use Rattle.oer_model.specs.WellFormed.{addition_names, field_names}
use Rattle.serde_json.specs.View.{members_view}
use Rattle.oer_json.specs.Keys.{keys_of}
use Rattle.oer_json.specs.Take.{is_key}
use Rattle.oer_json_places.specs.Next.{first_other}
use Rattle.oer_json_places.proofs.keys.other_key.Given as goal

-- the keys before are names
abbrev pub invariant-loop-key : goal.invariant-loop-key
invariant-loop-key l =
    let test = is_key (field_names (fields_of l.root)) (addition_names (additions_of l.additions)) in
    first_other test (keys_of (members_view l.map.entries)) ≡ first_other test (map string_bytes l.key-iterator)

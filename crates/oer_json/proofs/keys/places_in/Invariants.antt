use Rattle.std.proofs.Common.{◌≡◌, [], map, string_bytes}
use Rattle.serde_json.specs.View.{members_view}
use Rattle.oer_json.specs.Keys.{keys_of, places_in}
use Rattle.oer_json.proofs.keys.places_in.Given as goal

-- the keys left give the whole
abbrev pub invariant-loop-key : goal.invariant-loop-key
invariant-loop-key l = places_in [] (keys_of (members_view l.map.entries)) ≡ places_in l.places.keys (map string_bytes l.key-iterator)

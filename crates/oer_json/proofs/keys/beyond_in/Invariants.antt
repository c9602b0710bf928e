use Rattle.std.proofs.Common.{◌≡◌, None, map, option_map, string_bytes}
use Rattle.serde_json.specs.View.{members_view}
use Rattle.oer_json.specs.Keys.{beyond_in, keys_of}
use Rattle.oer_json.proofs.keys.beyond_in.Given as goal

-- the keys left give the whole
abbrev pub invariant-loop-key : goal.invariant-loop-key
invariant-loop-key l = beyond_in None (keys_of (members_view l.map.entries)) ≡ beyond_in (option_map (λ s. s.now) l.found) (map string_bytes l.key-iterator)

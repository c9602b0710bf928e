use Rattle.std.proofs.Common.{◌≡◌, ◌++◌, Ok, map}
use Rattle.serde_json.specs.View.{members_view}
use Rattle.oer_values.specs.ValueView.{unknown_of}
use Rattle.oer_json.specs.Answer.{◌>>=◌}
use Rattle.oer_json.specs.Take.{unknown_from}
use Rattle.oer_json.proofs.unknown.unknown_from.Given as goal

-- what is there and what is left are the whole
abbrev pub invariant-loop-place : goal.invariant-loop-place
invariant-loop-place l = unknown_from l.known l.places.keys (members_view l.members.entries) ≡ (unknown_from l.known l.place-iterator (members_view l.members.entries) >>= λ us. Ok (map unknown_of l.unknown.items ++ us))

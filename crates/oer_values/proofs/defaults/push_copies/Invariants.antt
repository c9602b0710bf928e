use Rattle.std.proofs.Common.{◌≡◌, drop}
use Rattle.oer_values.specs.ValueView.{attached, places_of}
use Rattle.oer_values.proofs.defaults.push_copies.Given as goal

abbrev pub invariant-loop-place : goal.invariant-loop-place
invariant-loop-place l = attached l.places.items (places_of (drop l.place-index l.rest)) ≡ attached l.fn.places.items (places_of l.rest)

use Rattle.std.proofs.Common.{◌≡◌, drop}
use Rattle.oer_model.specs.Canonical.{any_present}
use Rattle.oer_values.specs.ValueView.{places_of}
use Rattle.oer_leaves.proofs.presence.is_extended.Given as goal

abbrev pub invariant-loop-place : goal.invariant-loop-place
invariant-loop-place l = any_present (places_of (drop l.place-index l.added)) ≡ any_present (places_of l.added)

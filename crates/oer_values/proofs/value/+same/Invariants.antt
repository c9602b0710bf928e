use Rattle.std.proofs.Common.{◌≡◌, ◌↔◌, drop}
use Rattle.oer_values.specs.ValueView.{values_of, places_of}
use Rattle.oer_values.proofs.value.+same.Given as goal

-- whether what is left is the same, says whether all is
abbrev pub invariant-same_values-loop-one : goal.invariant-same_values-loop-one
invariant-same_values-loop-one l =
    (values_of (drop l.one-index l.ones) ≡ values_of l.rest) ↔ (values_of l.ones ≡ values_of l.others)

abbrev pub invariant-same_places-loop-one : goal.invariant-same_places-loop-one
invariant-same_places-loop-one l =
    (places_of (drop l.one-index l.ones) ≡ places_of l.rest) ↔ (places_of l.ones ≡ places_of l.others)

use Rattle.std.proofs.Common.{drop}
use Rattle.oer_values.specs.ValueView.{places_of, values_of}
use Rattle.oer_writer.proofs.Bounds.{LeftAdded, LeftPlaces, LeftValues}
use Rattle.oer_writer.proofs.bound.+bound.Given as goal

abbrev pub invariant-bound_places-loop-place : goal.invariant-bound_places-loop-place
invariant-bound_places-loop-place l = LeftPlaces l.fn.done (places_of l.places) l.done (places_of (drop l.place-index l.places))

abbrev pub invariant-bound_added-loop-place : goal.invariant-bound_added-loop-place
invariant-bound_added-loop-place l = LeftAdded l.fn.done (places_of l.places) l.done (places_of (drop l.place-index l.places))

abbrev pub invariant-bound_values-loop-value : goal.invariant-bound_values-loop-value
invariant-bound_values-loop-value l = LeftValues l.fn.done (values_of l.values) l.done (values_of (drop l.value-index l.values))

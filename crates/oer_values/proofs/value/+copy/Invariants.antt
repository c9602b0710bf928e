use Rattle.std.proofs.Common.{◌≡◌, take, map, option_map}
use Rattle.oer_values.specs.ValueView.{value_of}
use Rattle.oer_values.proofs.value.+copy.Given as goal

abbrev pub invariant-copy_values-loop-value : goal.invariant-copy_values-loop-value
invariant-copy_values-loop-value l = map value_of l.copies.items ≡ map value_of (take l.value-index l.values)

abbrev pub invariant-copy_places-loop-place : goal.invariant-copy_places-loop-place
invariant-copy_places-loop-place l =
    map (option_map value_of) l.copies.items ≡ map (option_map value_of) (take l.place-index l.places)

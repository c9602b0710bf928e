use Rattle.std.proofs.Common.{arith, ap, sym, ◌∙◌, ◌≡◌, [], ◌∷◌, ◌+◌, length, of_z, unsigned_abs}
use Rattle.std.specs.Int.{w128}
use Rattle.std.proofs.lemmas.Int.{ints}
use Rattle.oer_units.specs.Least.{enumerated_octets, signed_octets}
use Rattle.oer_units.proofs.Lowest.{puts_same, enumerated_short, enumerated_far, enumerated_below, long_is, held_64, held_wide, wide_bits}
use Rattle.oer_units.proofs.writing.put_enumerated.Goals.{else-value-ge0-via-then-value-ge0+else-value-lt128, else-value-ge0-via-else-value-ge0}
use Rattle.oer_units.proofs.writing.put_enumerated.Goals as goal

pub returns-then-value-lt128 : goal.returns-then-value-lt128
returns-then-value-lt128 g c = puts_same (ap (λ x. unsigned_abs x ∷ []) (held_64 c.args.value c.ranges.value) ∙ sym (enumerated_short c.args.value (grind (arith, ints)) (grind (arith, ints)))) c.put_octets.ensures

pub returns-else-value-ge0 : goal.returns-else-value-ge0
returns-else-value-ge0 g c =
    let long : enumerated_octets c.args.value ≡ (128 + length (signed_octets c.args.value)) ∷ signed_octets c.args.value = elim c.else-value-ge0.branch [
      | else-value-ge0-via-then-value-ge0+else-value-lt128 w ↦ enumerated_far c.args.value (grind (arith, ints))
      | else-value-ge0-via-else-value-ge0 w ↦ enumerated_below c.args.value (grind (arith, ints))
    ] in
    let same = held_wide c.args.value c.ranges.value in
    puts_same (long_is c.args.value c.signed_needed-count.result c.cast_unsigned.result (wide_bits c.args.value c.ranges.value) (c.signed_needed-count.ensures.value ∙ ap (λ x. length (signed_octets x)) same) (c.cast_unsigned.ensures ∙ ap (of_z w128) same) long) c.put_low_octets.ensures

use Rattle.std.proofs.Common.{arith, sym, ap, ◌∙◌, ◌≡◌, ◌∷◌, ◌+◌, length}
use Rattle.std.proofs.lemmas.Int.{ints}
use Rattle.oer_units.specs.Least.{enumerated_octets, signed_octets}
use Rattle.oer_units.proofs.Lowest.{enumerated_short, enumerated_far, enumerated_below, held_wide}
use Rattle.oer_units.proofs.writing.enumerated_len.Goals.{else-value-ge0-via-then-value-ge0+else-value-lt128, else-value-ge0-via-else-value-ge0}
use Rattle.oer_units.proofs.writing.enumerated_len.Goals as goal

pub returns-then-value-lt128 : goal.returns-then-value-lt128
returns-then-value-lt128 c = sym (ap length (enumerated_short c.args.value (grind (arith, ints)) (grind (arith, ints))))

pub returns-else-value-ge0 : goal.returns-else-value-ge0
returns-else-value-ge0 c =
    let long : enumerated_octets c.args.value ≡ (128 + length (signed_octets c.args.value)) ∷ signed_octets c.args.value = elim c.else-value-ge0.branch [
      | else-value-ge0-via-then-value-ge0+else-value-lt128 w ↦ enumerated_far c.args.value (grind (arith, ints))
      | else-value-ge0-via-else-value-ge0 w ↦ enumerated_below c.args.value (grind (arith, ints))
    ] in
    let count = c.signed_needed.ensures.value ∙ ap (λ x. length (signed_octets x)) (held_wide c.args.value c.ranges.value) in
    omega (arith, count, ap length long)

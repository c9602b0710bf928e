-- Forms by bounds of 64 bits.
use Rattle.std.proofs.Common.{◌≡◌, Bool, true, false, ◌&&◌, ℤ, pos, negsuc, int_le, FitsSigned, of_z, to_z, Some, arith, refl, sym, ap, ap₂, ◌∙◌}
use Rattle.std.proofs.lemmas.Bool.{le-leb}
use Rattle.std.proofs.lemmas.Int.{ints}
use Rattle.std.specs.Int.{w64}
use Rattle.oer_units.specs.Reading.{is_int64}
use Rattle.oer_units.proofs.Lengths.{both_true}
use Rattle.oer_units.proofs.Lowest.{held_64}
use Rattle.oer_model.specs.Constraints.{Form, form_of, signed_form, signed_within, unsigned_form}
use Rattle.oer_model.proofs.fitting.Ranges.{is_64_bits}

-- each is below 2^64
pub high_wide : (z : ℤ) → FitsSigned w64 z → int_le z (pos 18446744073709551615) ≡ true
high_wide (pos n) f = le-leb n 18446744073709551615 (omega (arith, ints))
high_wide (negsuc n) f = refl

-- and within two's complement
pub both_wide : (low high : ℤ) → FitsSigned w64 low → FitsSigned w64 high → signed_within (Some low) (Some high) 63 ≡ true
unfolding is_int64
both_wide low high f g = rw ((both_true (int_le (negsuc 9223372036854775807) low) (int_le low (pos 9223372036854775807)) (is_64_bits low f)).0, (both_true (int_le (negsuc 9223372036854775807) high) (int_le high (pos 9223372036854775807)) (is_64_bits high g)).1) refl

-- the tests, of the bounds as a variable holds them
pub is_to : (b : Bool) (high most : ℤ) → FitsSigned w64 high → b ≡ int_le (to_z w64 (of_z w64 high)) most → int_le high most ≡ b
is_to b high most f e = sym (e ∙ ap (λ z. int_le z most) (held_64 high f))

pub is_within : (b : Bool) (least most low high : ℤ) → FitsSigned w64 low → FitsSigned w64 high
    → b ≡ (int_le least (to_z w64 (of_z w64 low)) && int_le (to_z w64 (of_z w64 high)) most) → (int_le least low && int_le high most) ≡ b
is_within b least most low high f g e = sym (e ∙ ap₂ (λ y z. int_le least y && int_le z most) (held_64 low f) (held_64 high g))

pub at_unsigned : (low high : ℤ) (f : Form) → FitsSigned w64 low → FitsSigned w64 high → true ≡ int_le (pos 0) (to_z w64 (of_z w64 low))
    → f ≡ unsigned_form (Some (to_z w64 (of_z w64 high))) → f ≡ form_of (Some low) (Some high)
unfolding form_of
at_unsigned low high f l h e is =
    let from : int_le (pos 0) low ≡ true = sym (e ∙ ap (λ z. int_le (pos 0) z) (held_64 low l)) in
    rw (from) (is ∙ ap (λ z. unsigned_form (Some z)) (held_64 high h))

pub at_signed : (low high : ℤ) (f : Form) → FitsSigned w64 low → FitsSigned w64 high → false ≡ int_le (pos 0) (to_z w64 (of_z w64 low))
    → f ≡ signed_form (Some (to_z w64 (of_z w64 low))) (Some (to_z w64 (of_z w64 high))) → f ≡ form_of (Some low) (Some high)
unfolding form_of
at_signed low high f l h e is =
    let from : int_le (pos 0) low ≡ false = sym (e ∙ ap (λ z. int_le (pos 0) z) (held_64 low l)) in
    rw (from) (is ∙ ap₂ (λ y z. signed_form (Some y) (Some z)) (held_64 low l) (held_64 high h))

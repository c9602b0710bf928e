-- Digits, and the number that they write.
use Rattle.std.proofs.Common.{◌≡◌, ℕ, ◌^◌, ◌<◌, List, length, Result, Ok, Err, Option, Some, None, Bool, true, false, arith, ℤ, pos}
use Rattle.std.proofs.Common.{nat_lt, nat_le, cond, ◌∙◌, ap, sym, refl, lt-ltb}
use Rattle.std.specs.Prelude.{FitsSigned, neg_ℤ}
use Rattle.std.proofs.lemmas.Bool.{ltb-true, leb-true, and_parts}
use Rattle.std.proofs.lemmas.Str.Parse.{tells_all_ascii_digits, numerals_by_value, IsNumeralModel}
use Rattle.std.specs.Int.{w128}
use Rattle.std.specs.Str.Parse.{ParsesUnsigned, IsNumeral, digits_value, without_leading_plus}
use Rattle.std.specs.Str.{all_ascii_digits}
use Rattle.oer_module_values.specs.Digits.{IsWritten, signed, is_numeral, above_zero, in_range, whole_of}
use Rattle.oer_module_names.specs.declared.error.Place.{Place}
use Rattle.oer_module_values.specs.Numbers.{Numeral, fitting, whole}

tells_numerals : IsNumeralModel (λ ds. all_ascii_digits ds ≡ true) (digits_value 10)
tells_numerals = numerals_by_value _ tells_all_ascii_digits

numeral_true : (w : List ℕ) → IsNumeral 10 w → is_numeral w ≡ true
numeral_true w h = rw (lt-ltb 0 (length w) h.0, tells_numerals.from w h.1)

pub true_numeral : (w : List ℕ) → is_numeral w ≡ true → IsNumeral 10 w
true_numeral w h = let p = and_parts (nat_lt 0 (length w)) (all_ascii_digits w) h in (ltb-true _ _ p.0, tells_numerals.to _ p.1)

none_if : {A : Type 0} (b : Bool) (x : A) → (b ≡ true → ⊥) → None ≡ cond b (Some x) None
none_if true x h = absurd (h refl)
none_if false x h = refl

too_large : (negative : Bool) (n : ℕ) → (n < 2 ^ 128 → ⊥) → None ≡ in_range negative n
too_large true n h = none_if (nat_le n (2 ^ 127)) _ (λ e. h (let p = leb-true n (2 ^ 127) e in omega arith))
too_large false n h = none_if (nat_lt n (2 ^ 127)) _ (λ e. h (let p = ltb-true n (2 ^ 127) e in omega arith))

pub whole_ok : {E : Type 0} (negative : Bool) (w : List ℕ) (r : Result ℕ E) (n : ℕ) → ParsesUnsigned 128 10 w r → r ≡ Ok n
    → in_range negative n ≡ whole_of negative w
unfolding whole_of
whole_ok negative w (Ok x) n h e =
    let same : x ≡ n = cc in
    rw (numeral_true (without_leading_plus w) h.0.0) (ap (in_range negative) (sym same ∙ h.1))
whole_ok negative w (Err x) n h e = absurd (cc)

whole_none : (negative : Bool) (w : List ℕ) (b : Bool) → is_numeral (without_leading_plus w) ≡ b
    → (IsNumeral 10 (without_leading_plus w) × (digits_value 10 (without_leading_plus w) < 2 ^ 128) → ⊥)
    → None ≡ cond b (in_range negative (digits_value 10 (without_leading_plus w))) None
whole_none negative w true e h = too_large negative _ (λ g. h (true_numeral _ e, g))
whole_none negative w false e h = refl

pub whole_err : {E : Type 0} (negative : Bool) (w : List ℕ) (r : Result ℕ E) (x : E) → ParsesUnsigned 128 10 w r → r ≡ Err x
    → None ≡ whole_of negative w
unfolding whole_of
whole_err negative w (Ok y) x h e = absurd (cc)
whole_err negative w (Err y) x h e = whole_none negative w _ refl h

pub above_fits : (n : ℕ) → FitsSigned w128 (pos n) → above_zero n ≡ Some (pos n)
above_fits n h = rw (lt-ltb n (2 ^ 127) (omega (arith, h.sfits))) refl

pub above_large : (n : ℕ) → (FitsSigned w128 (pos n) → ⊥) → None ≡ above_zero n
above_large n h = none_if (nat_lt n (2 ^ 127)) _ (λ e. h (record { sfits = let p = ltb-true n (2 ^ 127) e in omega arith }))

below_signed : (b : Bool) (y z : ℤ) → cond b (Some y) None ≡ Some z → z ≡ y
below_signed true y z h = cc
below_signed false y z h = absurd (cc)

in_range_signed : (negative : Bool) (n : ℕ) (z : ℤ) → in_range negative n ≡ Some z → z ≡ signed negative n
in_range_signed true n z h = below_signed (nat_le n (2 ^ 127)) (neg_ℤ (pos n)) z h
in_range_signed false n z h = below_signed (nat_lt n (2 ^ 127)) (pos n) z h

numeral_written : (negative : Bool) (w : List ℕ) (z : ℤ) (b : Bool) → is_numeral (without_leading_plus w) ≡ b
    → cond b (in_range negative (digits_value 10 (without_leading_plus w))) None ≡ Some z → IsWritten negative w z
numeral_written negative w z true e h = record { numeral = true_numeral _ e; is = in_range_signed negative _ z h }
numeral_written negative w z false e h = absurd (cc)

written : (negative : Bool) (w : List ℕ) (z : ℤ) → whole_of negative w ≡ Some z → IsWritten negative w z
unfolding whole_of
written negative w z h = numeral_written negative w z _ refl h

fitting_some : (p : Place) (o : Option ℤ) (z : ℤ) → fitting p o ≡ Ok z → o ≡ Some z
fitting_some p None z h = absurd (cc)
fitting_some p (Some y) z h = cc

-- a number that fits is the one that is written
pub whole_written : (n : Numeral) (z : ℤ) → whole n ≡ Ok z → IsWritten n.negative n.digits z
whole_written n z h = written n.negative n.digits z (fitting_some n.place _ z h)

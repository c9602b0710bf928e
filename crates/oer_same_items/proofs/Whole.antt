-- A number of the notation and the tokens that it is in modules.
use Rattle.std.proofs.Common.{◌≡◌, ℕ, zero, suc, ◌^◌, ◌<◌, ◌≤◌, List, [], ◌∷◌, length, Bool, true, false, ◌==◌, Some, Ok, ℤ, pos, refl, sym, ap, subst, ◌∙◌, arith}
use Rattle.std.specs.Prelude.{FitsSigned, neg_ℤ}
use Rattle.std.specs.Int.{Width, w128}
use Rattle.std.specs.Char.{digit_value}
use Rattle.std.specs.Str.Parse.{AllDigits, IsNumeral, digits_value, signed_digits_value, without_leading_plus, without_leading_sign}
use Rattle.std.specs.Str.{all_ascii_digits}
use Rattle.std.proofs.lemmas.Bool.{eqb-true, le-leb, lt-ltb}
use Rattle.std.proofs.lemmas.Str.Parse.{tells_all_ascii_digits, numerals_by_value, IsNumeralModel}
use Rattle.oer_lexer.specs.Token as notation
use Rattle.oer_module_lexer.specs.Token.{Token, number, sign}
use Rattle.oer_module_lexer.specs.declared.token.Sign.TheVariants.{Hyphen}
use Rattle.oer_module_names.specs.declared.error.Place.{Place}
use Rattle.oer_module_values.specs.Digits.{IsWritten, in_range, is_numeral, signed, whole_of}
use Rattle.oer_module_values.specs.Numbers.{fitting}
use Rattle.oer_module_values.proofs.Wholes.{above_fits, whole_written}
use Rattle.oer_notation.specs.Grammar.{IsInteger, an_integer, IsNatural, a_natural}
use Rattle.oer_same_tokens.specs.Same.{same_number, same_token}

-- digits of modules, with a hyphen before them or without, that write the number
pub data IsWhole (z : ℤ) : List Token → Type 0 where
  from_zero : {w : List ℕ} → IsWritten false w z → IsWhole z (number w ∷ [])
  below_zero : {w : List ℕ} → IsWritten true w z → IsWhole z (sign Hyphen ∷ number w ∷ [])

-- ---- a number of the notation writes the same in modules

no_plus : (c : ℕ) → digit_value c < 10 → c == 43 ≡ false
no_plus c h = by (c == 43) refl
  where
    by : (b : Bool) → c == 43 ≡ b → b ≡ false
    by true e = absurd (let small : digit_value 43 < 10 = subst (λ c. digit_value c < 10) (eqb-true c 43 e) h in omega arith)
    by false e = refl

digits_stay : (w : List ℕ) → AllDigits 10 w → without_leading_plus w ≡ w
digits_stay [] h = refl
digits_stay (c ∷ cs) h = rw (no_plus c h.0) refl

module _ (c : ℕ) (cs : List ℕ) (z : ℤ) (n : IsNumeral 10 (without_leading_sign (c ∷ cs))) (e : signed_digits_value 10 (c ∷ cs) ≡ z) where
  behind_hyphen : c == 45 ≡ true → IsWritten true cs z
  behind_hyphen h =
      let numeral : IsNumeral 10 cs = rw h at n in
      let value : neg_ℤ (pos (digits_value 10 cs)) ≡ z = rw h at e in
      let stays = digits_stay cs numeral.1 in
      record { numeral = rw stays numeral; is = rw stays (sym value) }

  without_hyphen : c == 45 ≡ false → IsWritten false (c ∷ cs) z
  without_hyphen h = record { numeral = rw h at n; is = sym (rw h at e) }

  whole_by : (b : Bool) → c == 45 ≡ b → IsWhole z (same_number (c ∷ cs))
  whole_by true h = rw h (below_zero (behind_hyphen h))
  whole_by false h = rw h (from_zero (without_hyphen h))

numeral_whole : (w : List ℕ) (z : ℤ) → IsNumeral 10 (without_leading_sign w) → signed_digits_value 10 w ≡ z → IsWhole z (same_number w)
numeral_whole [] z n e = absurd (let some = n.0 in omega arith)
numeral_whole (c ∷ cs) z n e = whole_by c cs z n e (c == 45) refl

-- The tokens of modules write the number of the notation, whatever its width.
pub integer_whole : {width : Width} {z : ℤ} {t : notation.Token} → IsInteger width z t → IsWhole z (same_token t)
integer_whole (an_integer {z} {w} n e f) = numeral_whole w z n e

-- ---- a number without a sign

no_hyphen : (c : ℕ) → digit_value c < 10 → c == 45 ≡ false
no_hyphen c h = by (c == 45) refl
  where
    by : (b : Bool) → c == 45 ≡ b → b ≡ false
    by true e = absurd (let small : digit_value 45 < 10 = subst (λ c. digit_value c < 10) (eqb-true c 45 e) h in omega arith)
    by false e = refl

-- a plus is no hyphen
plus_first : (c : ℕ) (cs : List ℕ) (b : Bool) → c == 43 ≡ b → IsNumeral 10 (without_leading_plus (c ∷ cs)) → c == 45 ≡ false
plus_first c cs true h n = rw (eqb-true c 43 h) refl
plus_first c cs false h n = let numeral : IsNumeral 10 (c ∷ cs) = rw h at n in no_hyphen c numeral.1.0

pub same_digits : (w : List ℕ) → IsNumeral 10 (without_leading_plus w) → same_number w ≡ number w ∷ []
same_digits [] n = refl
same_digits (c ∷ cs) n = rw (plus_first c cs (c == 43) refl n) refl

-- It is one token in modules, too, and writes the same.
pub natural_whole : {limit n : ℕ} {t : notation.Token} → IsNatural limit n t → IsWhole (pos n) (same_token t)
natural_whole (a_natural {n} {w} numeral value below) =
    rw (same_digits w numeral) (from_zero (record { numeral = numeral; is = ap pos (sym value) }))

-- ---- digits write one number

-- What digits are in modules is what they write.
pub written_once : (negative : Bool) (w : List ℕ) (y z : ℤ) → IsWritten negative w y → IsWritten negative w z → y ≡ z
written_once negative w y z a b = a.is ∙ sym b.is

-- as the reader of modules finds it, at a place
pub fitting_once : (p : Place) (negative : Bool) (w : List ℕ) (y z : ℤ) → IsWritten negative w z → fitting p (whole_of negative w) ≡ Ok y → y ≡ z
fitting_once p negative w y z a h = written_once negative w y z (whole_written (record { place = p; negative = negative; digits = w }) y h) a

-- ---- and it is found where 128 bits hold it

tells_numerals : IsNumeralModel (λ ds. all_ascii_digits ds ≡ true) (digits_value 10)
tells_numerals = numerals_by_value _ tells_all_ascii_digits

numeral_true : (w : List ℕ) → IsNumeral 10 w → is_numeral w ≡ true
numeral_true w h = rw (lt-ltb 0 (length w) h.0, tells_numerals.from w h.1) refl

negative_fits : (n : ℕ) → FitsSigned w128 (neg_ℤ (pos n)) → in_range true n ≡ Some (neg_ℤ (pos n))
negative_fits zero h = refl
negative_fits (suc n) h = let le : suc n ≤ 2 ^ 127 = omega (arith, h.sfits) in rw (le-leb (suc n) (2 ^ 127) le) refl

range_fits : (minus : Bool) (n : ℕ) → FitsSigned w128 (signed minus n) → in_range minus n ≡ Some (signed minus n)
range_fits true n h = negative_fits n h
range_fits false n h = above_fits n h

pub whole_found : (minus : Bool) (w : List ℕ) (z : ℤ) → IsWritten minus w z → FitsSigned w128 z → whole_of minus w ≡ Some z
unfolding whole_of
whole_found minus w z a fits =
    let ds = without_leading_plus w in
    rw (numeral_true (without_leading_plus w) a.numeral) (range_fits minus (digits_value 10 ds) (subst (FitsSigned w128) a.is fits) ∙ ap Some (sym a.is))

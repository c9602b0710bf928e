-- Numbers in their ranges.
use Rattle.std.proofs.Common.{◌≡◌, ℕ, ◌^◌, List, length, Result, Ok, Err, Some, None, Bool, true, false, ◌&&◌, arith, ℤ, pos, negsuc, nat_lt, cond, ◌∙◌, ap, sym, subst, refl, lt-ltb}
use Rattle.std.specs.Prelude.{FitsSigned, int_le}
use Rattle.std.proofs.lemmas.Bool.{ltb-true, leb-true, le-leb, and_parts}
use Rattle.std.proofs.lemmas.Str.Parse.{tells_all_ascii_digits, numerals_by_value, IsNumeralModel}
use Rattle.std.specs.Int.{Width, w64, w128}
use Rattle.std.specs.Str.Parse.{ParsesSigned, ParsesUnsigned, IsNumeral, digits_value, signed_digits_value, without_leading_sign, without_leading_plus}
use Rattle.std.specs.Str.{all_ascii_digits}
use Rattle.oer_literals.specs.Numbers.{is_numeral, integer_within, natural_below, integer_of, item_number_of, size_of, tag_number_of, arc_of, place_of}

pub tells_numerals : IsNumeralModel (λ ds. all_ascii_digits ds ≡ true) (digits_value 10)
tells_numerals = numerals_by_value _ tells_all_ascii_digits

pub numeral_true : (w : List ℕ) → IsNumeral 10 w → is_numeral w ≡ true
numeral_true w h = rw (lt-ltb 0 (length w) h.0, tells_numerals.from w h.1)

pub true_numeral : (w : List ℕ) → is_numeral w ≡ true → IsNumeral 10 w
true_numeral w h = let p = and_parts (nat_lt 0 (length w)) (all_ascii_digits w) h in (ltb-true _ _ p.0, tells_numerals.to _ p.1)

none_if : {A : Type 0} (b : Bool) (x : A) → (b ≡ true → ⊥) → None ≡ cond b (Some x) None
none_if true x h = absurd (h refl)
none_if false x h = refl

-- how a width's range is tested
pub record IsRange (width : Width) (low high : ℤ) : Type 0 where
  pub tests : (z : ℤ) → FitsSigned width z → int_le low z && int_le z high ≡ true
  pub tells : (z : ℤ) → int_le low z && int_le z high ≡ true → FitsSigned width z

module _ (width : Width) (low high : ℤ) (range : IsRange width low high) where
  integer_ok : {E : Type 0} (w : List ℕ) (r : Result ℤ E) (z : ℤ) → ParsesSigned width 10 w r → r ≡ Ok z → Some z ≡ integer_within low high w
  integer_ok w (Ok x) z h e =
      let a = numeral_true (without_leading_sign w) h.0.0 in
      let b = range.tests (signed_digits_value 10 w) h.0.1 in
      let same : x ≡ z = cc in
      rw (a, b) (ap Some (sym same ∙ h.1))
  integer_ok w (Err x) z h e = absurd (cc)

  integer_err : {E : Type 0} (w : List ℕ) (r : Result ℤ E) (x : E) → ParsesSigned width 10 w r → r ≡ Err x → None ≡ integer_within low high w
  integer_err w (Ok y) x h e = absurd (cc)
  integer_err w (Err y) x h e = none_if _ (signed_digits_value 10 w) (λ t.
      let p = and_parts (is_numeral (without_leading_sign w)) (int_le low (signed_digits_value 10 w) && int_le (signed_digits_value 10 w) high) t in
      h (true_numeral _ p.0, range.tells _ p.1))

pub integer_fits : {E : Type 0} (width : Width) (w : List ℕ) (r : Result ℤ E) (z : ℤ) → ParsesSigned width 10 w r → r ≡ Ok z → FitsSigned width z
integer_fits width w (Ok x) z h e = let same : x ≡ z = cc in subst (FitsSigned width) (sym h.1 ∙ same) h.0.1
integer_fits width w (Err x) z h e = absurd (cc)

tests_128 : (z : ℤ) → FitsSigned w128 z → int_le (negsuc 170141183460469231731687303715884105727) z && int_le z (pos 170141183460469231731687303715884105727) ≡ true
tests_128 (pos n) h = le-leb n _ (omega (arith, h.sfits))
tests_128 (negsuc n) h = rw (le-leb n 170141183460469231731687303715884105727 (omega (arith, h.sfits))) refl

tells_128 : (z : ℤ) → int_le (negsuc 170141183460469231731687303715884105727) z && int_le z (pos 170141183460469231731687303715884105727) ≡ true → FitsSigned w128 z
tells_128 (pos n) h = record { sfits = let e = leb-true n 170141183460469231731687303715884105727 h in omega arith }
tells_128 (negsuc n) h = record { sfits = let e = leb-true n 170141183460469231731687303715884105727 (and_parts _ _ h).0 in omega arith }

pub range_128 : IsRange w128 (negsuc 170141183460469231731687303715884105727) (pos 170141183460469231731687303715884105727)
range_128 = record { tests = tests_128; tells = tells_128 }

pub integer_of_ok : {E : Type 0} (w : List ℕ) (r : Result ℤ E) (z : ℤ) → ParsesSigned w128 10 w r → r ≡ Ok z → Some z ≡ integer_of w
unfolding integer_of
integer_of_ok w r z h e = integer_ok w128 _ _ range_128 w r z h e

pub integer_of_err : {E : Type 0} (w : List ℕ) (r : Result ℤ E) (x : E) → ParsesSigned w128 10 w r → r ≡ Err x → None ≡ integer_of w
unfolding integer_of
integer_of_err w r x h e = integer_err w128 _ _ range_128 w r x h e

tests_64 : (z : ℤ) → FitsSigned w64 z → int_le (negsuc 9223372036854775807) z && int_le z (pos 9223372036854775807) ≡ true
tests_64 (pos n) h = le-leb n _ (omega (arith, h.sfits))
tests_64 (negsuc n) h = rw (le-leb n 9223372036854775807 (omega (arith, h.sfits))) refl

tells_64 : (z : ℤ) → int_le (negsuc 9223372036854775807) z && int_le z (pos 9223372036854775807) ≡ true → FitsSigned w64 z
tells_64 (pos n) h = record { sfits = let e = leb-true n 9223372036854775807 h in omega arith }
tells_64 (negsuc n) h = record { sfits = let e = leb-true n 9223372036854775807 (and_parts _ _ h).0 in omega arith }

pub range_64 : IsRange w64 (negsuc 9223372036854775807) (pos 9223372036854775807)
range_64 = record { tests = tests_64; tells = tells_64 }

pub item_number_ok : {E : Type 0} (w : List ℕ) (r : Result ℤ E) (z : ℤ) → ParsesSigned w64 10 w r → r ≡ Ok z → Some z ≡ item_number_of w
unfolding item_number_of
item_number_ok w r z h e = integer_ok w64 _ _ range_64 w r z h e

pub item_number_err : {E : Type 0} (w : List ℕ) (r : Result ℤ E) (x : E) → ParsesSigned w64 10 w r → r ≡ Err x → None ≡ item_number_of w
unfolding item_number_of
item_number_err w r x h e = integer_err w64 _ _ range_64 w r x h e

module _ (k : ℕ) where
  natural_ok : {E : Type 0} (w : List ℕ) (r : Result ℕ E) (n : ℕ) → ParsesUnsigned k 10 w r → r ≡ Ok n → Some n ≡ natural_below (2 ^ k) w
  natural_ok w (Ok x) n h e =
      let a = numeral_true (without_leading_plus w) h.0.0 in
      let b = lt-ltb (digits_value 10 (without_leading_plus w)) (2 ^ k) h.0.1 in
      let same : x ≡ n = cc in
      rw (a, b) (ap Some (sym same ∙ h.1))
  natural_ok w (Err x) n h e = absurd (cc)

  natural_err : {E : Type 0} (w : List ℕ) (r : Result ℕ E) (x : E) → ParsesUnsigned k 10 w r → r ≡ Err x → None ≡ natural_below (2 ^ k) w
  natural_err w (Ok y) x h e = absurd (cc)
  natural_err w (Err y) x h e = none_if _ (digits_value 10 (without_leading_plus w)) (λ t.
      let p = and_parts (is_numeral (without_leading_plus w)) (nat_lt (digits_value 10 (without_leading_plus w)) (2 ^ k)) t in
      h (true_numeral _ p.0, ltb-true _ _ p.1))

pub size_ok : {E : Type 0} (w : List ℕ) (r : Result ℕ E) (n : ℕ) → ParsesUnsigned 64 10 w r → r ≡ Ok n → Some n ≡ size_of w
unfolding size_of
size_ok w r n h e = natural_ok 64 w r n h e

pub size_err : {E : Type 0} (w : List ℕ) (r : Result ℕ E) (x : E) → ParsesUnsigned 64 10 w r → r ≡ Err x → None ≡ size_of w
unfolding size_of
size_err w r x h e = natural_err 64 w r x h e

pub tag_number_ok : {E : Type 0} (w : List ℕ) (r : Result ℕ E) (n : ℕ) → ParsesUnsigned 32 10 w r → r ≡ Ok n → Some n ≡ tag_number_of w
unfolding tag_number_of
tag_number_ok w r n h e = natural_ok 32 w r n h e

pub tag_number_err : {E : Type 0} (w : List ℕ) (r : Result ℕ E) (x : E) → ParsesUnsigned 32 10 w r → r ≡ Err x → None ≡ tag_number_of w
unfolding tag_number_of
tag_number_err w r x h e = natural_err 32 w r x h e

pub arc_ok : {E : Type 0} (w : List ℕ) (r : Result ℕ E) (n : ℕ) → ParsesUnsigned 128 10 w r → r ≡ Ok n → Some n ≡ arc_of w
unfolding arc_of
arc_ok w r n h e = natural_ok 128 w r n h e

pub arc_err : {E : Type 0} (w : List ℕ) (r : Result ℕ E) (x : E) → ParsesUnsigned 128 10 w r → r ≡ Err x → None ≡ arc_of w
unfolding arc_of
arc_err w r x h e = natural_err 128 w r x h e

pub place_ok : {E : Type 0} (w : List ℕ) (r : Result ℕ E) (n : ℕ) → ParsesUnsigned 16 10 w r → r ≡ Ok n → Some n ≡ place_of w
unfolding place_of
place_ok w r n h e = natural_ok 16 w r n h e

pub place_err : {E : Type 0} (w : List ℕ) (r : Result ℕ E) (x : E) → ParsesUnsigned 16 10 w r → r ≡ Err x → None ≡ place_of w
unfolding place_of
place_err w r x h e = natural_err 16 w r x h e

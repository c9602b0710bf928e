-- The decimal digits of a number.
use Rattle.std.proofs.Common.{◌≡◌, ◌≢◌, ◌<◌, ◌^◌, ℕ, zero, suc, List, [], ◌∷◌, length, Result, Ok, Err, true, refl, sym, ap, ◌∙◌, subst, arith, rules}
use Rattle.std.specs.Fmt.{decimal}
use Rattle.std.specs.Str.{all_ascii_digits}
use Rattle.std.specs.Int.{IsInRange}
use Rattle.std.specs.Str.Parse.{ParsesUnsigned, digits_value}
use Rattle.std.proofs.Math.ListN.{get_or}
use Rattle.std.proofs.lemmas.Fmt.{decimal_digit, decimal_nonempty, decimal-digits_value, digits_decimal, first_decimal, parse-decimal}
use Rattle.std.proofs.lemmas.Str.Parse.{IsNumeralModel, numerals_by_value, not_in_digits, parse_plain}

pub own : IsNumeralModel (λ ds. all_ascii_digits ds ≡ true) (digits_value 10)
own = numerals_by_value _ (search rules)

pub some_digit : (n : ℕ) → n < 2 ^ 64 → [] ≡ decimal n → ⊥
some_digit n h e = let some : 0 < length (decimal n) = decimal_nonempty n h in let none : 0 ≡ length (decimal n) = ap length e in omega arith

-- none of the digits is a character that is no digit
pub no_other : (n c i : ℕ) → n < 2 ^ 64 → (IsInRange 48 57 c → ⊥) → i < length (decimal n) → get_or (decimal n) i 0 ≢ c
no_other n c i h other lt = not_in_digits own (decimal n) c (digits_decimal own n h) other i lt

pub no_plus : (x : ℕ) (xs : List ℕ) (n : ℕ) → n < 2 ^ 64 → x ∷ xs ≡ decimal n → x ≢ 43
no_plus x xs n h e plus = no_other n 43 0 h (λ r. omega (arith, r.0, r.1)) (decimal_nonempty n h) (ap (λ (l : List ℕ). get_or l 0 0) (sym e) ∙ plus)

-- only 0 begins with a zero
pub one_zero : (x : ℕ) (xs : List ℕ) (n : ℕ) → n < 2 ^ 64 → x ∷ xs ≡ decimal n → x ≡ 48 → xs ≡ []
one_zero x xs zero h e is = let one : x ∷ xs ≡ 48 ∷ [] = e ∙ decimal_digit 0 (omega arith) in cc
one_zero x xs (suc n) h e is =
    let above : 48 < get_or (decimal (suc n)) 0 0 = first_decimal (suc n) (omega arith) h in
    let first : get_or (decimal (suc n)) 0 0 ≡ x = ap (λ (l : List ℕ). get_or l 0 0) (sym e) in
    absurd (omega (arith, above, first, is))

pub zero_is : (x : ℕ) → x ≡ 48 → x ∷ [] ≡ decimal 0
zero_is x is = ap (λ (c : ℕ). c ∷ []) is ∙ sym (decimal_digit 0 (omega arith))

-- what is read from digits that begin with neither a plus nor a zero
pub parsed : {E : Type 0} (x : ℕ) (xs : List ℕ) (n : ℕ) (r : Result ℕ E) → ParsesUnsigned 64 10 (x ∷ xs) r → r ≡ Ok n → x ≢ 43 → x ≢ 48 → x ∷ xs ≡ decimal n
parsed {E} x xs n r h is plus begins =
    let ok : Result ℕ E = Ok n in
    let gives : ParsesUnsigned 64 10 (x ∷ xs) ok = subst (ParsesUnsigned 64 10 (x ∷ xs)) is h in
    let plain = parse_plain own 64 (x ∷ xs) ok gives plus in
    sym (ap decimal plain.1 ∙ decimal-digits_value own (x ∷ xs) plain.0.0 plain.0.1 (λ e. absurd (begins e)) plain.0.2)

pub not_refused : {E : Type 0} (ds : List ℕ) (n : ℕ) (r : Result ℕ E) (e : E) → ParsesUnsigned 64 10 ds r → r ≡ Err e → n < 2 ^ 64 → ds ≡ decimal n → ⊥
not_refused ds n r e h is lt digits = let ok : r ≡ Ok n = parse-decimal 64 n ds r lt lt digits h in let both : Err e ≡ Ok n = sym is ∙ ok in cc

pub empty : (xs : List ℕ) → length xs ≡ 0 → xs ≡ []
empty [] e = refl
empty (x ∷ xs) e = absurd (omega (arith, e))

-- Numbers and names as they are printed: what they spell, and that they are tokens.
use Rattle.std.proofs.Common.{◌≡◌, ℕ, zero, suc, ◌+◌, ◌/◌, ◌%◌, ◌^◌, ◌<◌, ℤ, pos, negsuc, List, [], ◌∷◌, ◌++◌, drop, Bool, true, false, cond, ◌==◌, ◌&&◌, ◌||◌, ◌⊎◌, inl, inr, refl, sym, ap, subst, ◌∙◌, arith}
use Rattle.std.specs.Prelude.{FitsSigned, neg_ℤ}
use Rattle.std.specs.Char.{is_ascii_alphabetic, is_ascii_digit}
use Rattle.std.specs.Fmt.{decimal, signed_decimal}
use Rattle.std.specs.Int.{Width, w64, w128}
use Rattle.std.specs.Str.Parse.{IsNumeral, digits_value, signed_digits_value, starts_with_minus, without_leading_sign, without_leading_plus}
use Rattle.std.proofs.lemmas.Bool.{and_parts, eqb-true}
use Rattle.std.proofs.lemmas.Bool.Decides.{nat_tests}
use Rattle.std.proofs.lemmas.Fmt.{decimal_by_steps_wide, decimal_is_IsNumeral_wide}
use Rattle.oer_lexer.specs.Characters.{is_letter_or_digit, is_first_digit}
use Rattle.oer_lexer.specs.FallsInto.{IsToken, word_token, number_token, IsTail, tail_end, tail_char, tail_hyphen, a_word, IsRun, run_end, run_char, IsNumeral as IsNumber, nought, positive, negative}
use Rattle.oer_lexer.specs.Token.{Token, word}
use Rattle.oer_model.specs.Constraints.{is_within}
use Rattle.oer_model.specs.WellFormed.{AnyOf, is_alphanumeric, goes_on, is_identifier}
use Rattle.oer_notation.specs.Grammar.{IsId, an_id, IsInteger, an_integer, IsNatural, a_natural}
use Rattle.oer_printer.specs.Printing.{integer_token, natural_token}
use Rattle.oer_text.proofs.PrintedText.{AreTokens, plain}

-- ---- decimal digits

-- 0 alone, or a digit 1 to 9 and digits
data Starts : ℕ → List ℕ → Type 0 where
  zero_digit : Starts 0 (48 ∷ [])
  some_digits : {n c : ℕ} {cs : List ℕ} → is_first_digit c ≡ true → IsRun is_ascii_digit cs → Starts n (c ∷ cs)

digit_true : (d : ℕ) → d < 10 → is_ascii_digit (48 + d) ≡ true
digit_true d h = grind (arith, nat_tests)

first_true : (d : ℕ) → d < 9 → is_first_digit (48 + suc d) ≡ true
first_true d h = grind (arith, nat_tests)

one_digit : (n : ℕ) → n < 10 → Starts n ((48 + n) ∷ [])
one_digit zero h = zero_digit
one_digit (suc n) h = some_digits (first_true n (omega arith)) run_end

run_push : {p : ℕ → Bool} {w : List ℕ} (c : ℕ) → IsRun p w → p c ≡ true → IsRun p (w ++ c ∷ [])
run_push c run_end h = run_char h run_end
run_push c (run_char g r) h = run_char g (run_push c r h)

push : (m n d : ℕ) {ds : List ℕ} → Starts m ds → 0 < m → d < 10 → Starts n (ds ++ (48 + d) ∷ [])
push m n d zero_digit l h = absurd (omega (arith, l))
push m n d (some_digits f r) l h = some_digits f (run_push (48 + d) r (digit_true d h))

decimal_starts : (n : ℕ) → n < 10 ^ 64 → Starts n (decimal n)
decimal_starts n h = decimal_by_steps_wide Starts one_digit (λ n ds l s. push (n / 10) n (n % 10) s (omega arith) (omega arith)) n h

number_of : {n : ℕ} {w : List ℕ} → Starts n w → IsNumber w
number_of zero_digit = nought
number_of (some_digits h r) = positive h r

minus_of : {n : ℕ} {w : List ℕ} → Starts n w → 0 < n → IsNumber (45 ∷ w)
minus_of zero_digit l = absurd (omega (arith, l))
minus_of (some_digits h r) l = negative h r

other : (c x : ℕ) → is_first_digit c ≡ true → is_first_digit x ≡ false → c == x ≡ false
other c x h n = by_test (c == x) refl
  where
    by_test : (b : Bool) → c == x ≡ b → c == x ≡ false
    by_test true e = let k : is_first_digit x ≡ true = subst (λ y. is_first_digit y ≡ true) (eqb-true c x e) h in absurd (cc)
    by_test false e = e

no_plus : {n : ℕ} {w : List ℕ} → Starts n w → without_leading_plus w ≡ w
no_plus zero_digit = refl
no_plus (some_digits {n} {c} {cs} h r) = rw (other c 43 h refl) refl

no_minus : {n : ℕ} {w : List ℕ} → Starts n w → starts_with_minus w ≡ false
no_minus zero_digit = refl
no_minus (some_digits {n} {c} {cs} h r) = other c 45 h refl

pub natural_given : (limit n : ℕ) → n < limit → n < 10 ^ 64 → IsNatural limit n (natural_token n)
natural_given limit n h l =
    let m = decimal_is_IsNumeral_wide n l in
    let p = no_plus (decimal_starts n l) in
    a_natural (subst (IsNumeral 10) (sym p) m.0) (ap (digits_value 10) p ∙ m.1) h

pub natural_spelt : (n : ℕ) → n < 10 ^ 64 → IsToken (natural_token n) (decimal n)
natural_spelt n l = number_token (number_of (decimal_starts n l))

-- the digits are few
abbrev pub IsShort : ℤ → Type 0
IsShort (pos n) = n < 10 ^ 64
IsShort (negsuc n) = suc n < 10 ^ 64

pub short_128 : (z : ℤ) → FitsSigned w128 z → IsShort z
short_128 (pos n) h = omega (arith, h.sfits)
short_128 (negsuc n) h = omega (arith, h.sfits)

pub short_64 : (z : ℤ) → FitsSigned w64 z → IsShort z
short_64 (pos n) h = omega (arith, h.sfits)
short_64 (negsuc n) h = omega (arith, h.sfits)

plain_sign : {n : ℕ} {w : List ℕ} → Starts n w → without_leading_sign w ≡ w
plain_sign {n} {w} s = ap (λ b. cond b (drop 1 w) (without_leading_plus w)) (no_minus s) ∙ no_plus s

plain_value : {n : ℕ} {w : List ℕ} → Starts n w → signed_digits_value 10 w ≡ pos (digits_value 10 w)
plain_value {n} {w} s =
    ap (λ b. cond b (neg_ℤ (pos (digits_value 10 (without_leading_sign w)))) (pos (digits_value 10 (without_leading_sign w)))) (no_minus s)
    ∙ ap (λ v. pos (digits_value 10 v)) (plain_sign s)

pub integer_given : (width : Width) (z : ℤ) → FitsSigned width z → IsShort z → IsInteger width z (integer_token z)
integer_given width (pos n) f l =
    let m = decimal_is_IsNumeral_wide n l in
    let s = decimal_starts n l in
    an_integer (subst (IsNumeral 10) (sym (plain_sign s)) m.0) (plain_value s ∙ ap pos m.1) f
integer_given width (negsuc n) f l =
    let m = decimal_is_IsNumeral_wide (suc n) l in
    an_integer m.0 (ap (λ k. neg_ℤ (pos k)) m.1) f

pub integer_spelt : (z : ℤ) → IsShort z → IsToken (integer_token z) (signed_decimal z)
integer_spelt (pos n) l = number_token (number_of (decimal_starts n l))
integer_spelt (negsuc n) l = number_token (minus_of (decimal_starts (suc n) l) (omega arith))

-- ---- names

either : (a b : Bool) → a || b ≡ true → (a ≡ true) ⊎ (b ≡ true)
either true b h = inl refl
either false b h = inr h

swapped : (a b c : Bool) → a || b || c ≡ true → b || a || c ≡ true
swapped true true c h = refl
swapped true false c h = refl
swapped false true c h = refl
swapped false false c h = h

letter : (c : ℕ) → is_alphanumeric c ≡ true → is_letter_or_digit c ≡ true
letter c h = swapped (is_within 97 122 c) (is_within 65 90 c) (is_within 48 57 c) h

small : (a b : Bool) → b ≡ true → a || b ≡ true
small true b h = refl
small false b h = h

tail_of : (w : List ℕ) → goes_on w ≡ true → IsTail w
tail_of [] h = tail_end
tail_of (x ∷ []) h = elim (either (is_alphanumeric x && true) (x == 45 && false) h) [
  | inl p ↦ tail_char (letter x (and_parts (is_alphanumeric x) true p).0) tail_end
  | inr p ↦ absurd (let q = (and_parts (x == 45) false p).1 in cc)
]
tail_of (x ∷ y ∷ w) h = elim (either (is_alphanumeric x && goes_on (y ∷ w)) (x == 45 && (is_alphanumeric y && goes_on w)) h) [
  | inl p ↦ (let q = and_parts (is_alphanumeric x) (goes_on (y ∷ w)) p in tail_char (letter x q.0) (tail_of (y ∷ w) q.1))
  | inr p ↦ (let q = and_parts (x == 45) (is_alphanumeric y && goes_on w) p in
      let r = and_parts (is_alphanumeric y) (goes_on w) q.1 in
      subst (λ c. IsTail (c ∷ y ∷ w)) (sym (eqb-true x 45 q.0)) (tail_hyphen (letter y r.0) (tail_of w r.1)))
]

pub keyword : (c : ℕ) (cs : List ℕ) → is_ascii_alphabetic c ≡ true → goes_on cs ≡ true → IsToken (word (c ∷ cs)) (c ∷ cs)
keyword c cs h g = word_token (a_word h (tail_of cs g))

abbrev pub is_word_text : List ℕ → Bool
is_word_text [] = false
is_word_text (c ∷ cs) = is_ascii_alphabetic c && goes_on cs

-- a word before other tokens
pub worded : (w : List ℕ) {ts : List Token} → is_word_text w ≡ true → AreTokens ts → AreTokens (word w ∷ ts)
worded [] h a = absurd (cc)
worded (c ∷ cs) h a = let p = and_parts (is_ascii_alphabetic c) (goes_on cs) h in plain refl (keyword c cs p.0 p.1) a

pub id_given : (w : List ℕ) → is_identifier w ≡ true → IsId w × IsToken (word w) w
id_given [] h = absurd (cc)
id_given (c ∷ cs) h =
    let p = and_parts (is_within 97 122 c) (goes_on cs) h in
    (an_id p.0, keyword c cs (small (is_within 65 90 c) (is_within 97 122 c) p.0) p.1)

abbrev pub AllIds : List (List ℕ) → Type 0
AllIds [] = Unit {0}
AllIds (w ∷ ws) = (is_identifier w ≡ true) × AllIds ws

pub ids : (ws : List (List ℕ)) → (AnyOf (λ w. is_identifier w ≡ false) ws → ⊥) → AllIds ws
ids [] h = tt
ids (w ∷ ws) h = (by_test (is_identifier w) refl, ids ws (λ a. h (inr a)))
  where
    by_test : (b : Bool) → is_identifier w ≡ b → is_identifier w ≡ true
    by_test true e = e
    by_test false e = absurd (h (inl e))

pub split_ids : (vs ws : List (List ℕ)) → AllIds (vs ++ ws) → AllIds vs × AllIds ws
split_ids [] ws a = (tt, a)
split_ids (v ∷ vs) ws a = let s = split_ids vs ws a.1 in ((a.0, s.0), s.1)

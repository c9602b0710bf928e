-- Hexadecimal digits in a string of JSON.
use Rattle.std.proofs.Common.{◌≡◌, ◌∙◌, ℕ, zero, suc, ◌/◌, ◌%◌, ◌<◌, ◌≤◌, Bool, true, ◌&&◌, ◌||◌, inl}
use Rattle.std.proofs.Common.{inr, List, [], ◌∷◌, ◌++◌, Option, Some, None, refl, sym, ap, arith, nat_lt, slice_index}
use Rattle.std.proofs.lemmas.Bool.{and_parts, cases_lt}
use Rattle.std.proofs.lemmas.Bool.Decides.{nat_tests}
use Rattle.std.proofs.Math.Logic.{∥∥₁_elim}
use Rattle.std.specs.Coded.{Coded-set, coded_list, coded_ℕ}
use Rattle.oer_layout.specs.Text.{Text}
use Rattle.hex.specs.Hex.{IsBytes, encode_lower, encode_with, lower_digits}
use Rattle.json.specs.Print.{escape, escape_byte}
use Rattle.json.proofs.Printed.Strings.{escape_byte_plain}
use Rattle.serde_json.specs.Data.{Data}
use Rattle.serde_json.specs.Find.{as_str}
use Rattle.serde_json.specs.Written.{compact_text}
use Rattle.oer_units.specs.Octets.{IsOctets}
use Rattle.oer_entries.specs.Digits.{AreDigits}
use Rattle.oer_layout.specs.Array.{octets_data}

-- a string has the digit as it is
abbrev is_plain : ℕ → Bool
is_plain x = (nat_lt 47 x && nat_lt x 92) || nat_lt 92 x

-- the test of the first n digits
abbrev all_plain : ℕ → Bool
all_plain zero = true
all_plain (suc n) = is_plain (slice_index lower_digits n) && all_plain n

plain_at : (n k : ℕ) → all_plain n ≡ true → k < n → is_plain (slice_index lower_digits k) ≡ true
plain_at zero k h lt = absurd (omega arith)
plain_at (suc n) k h lt =
    let parts = and_parts (is_plain (slice_index lower_digits n)) (all_plain n) h in
    elim (cases_lt k n) [
      | inl below ↦ plain_at n k parts.1 below
      | inr top ↦ let e : k ≡ n = omega arith in rw e parts.0
    ]

plain_bounds : (x : ℕ) → is_plain x ≡ true → (32 ≤ x) × (x ≡ 34 → ⊥) × (x ≡ 92 → ⊥)
plain_bounds x h = grind (arith, nat_tests)

digit_plain : (k : ℕ) → k < 16 → escape_byte (slice_index lower_digits k) ≡ slice_index lower_digits k ∷ []
digit_plain k lt =
    let (high, q, b) = plain_bounds (slice_index lower_digits k) (plain_at 16 k refl lt) in
    escape_byte_plain (slice_index lower_digits k) q b high

pub digits_plain : (b : List ℕ) → IsBytes b → escape (encode_lower b) ≡ encode_lower b
unfolding encode_with
digits_plain [] h = refl
digits_plain (x ∷ rest) h =
    let fits : x < 256 = h 0 in
    let high : x / 16 < 16 = omega arith in
    let low : x % 16 < 16 = omega arith in
    rw (digit_plain (x / 16) high, digit_plain (x % 16) low, digits_plain rest (λ i. h (suc i))) refl

pub digits_pushed : (b : List ℕ) → IsBytes b → (t0 t1 shown : Text) → shown ≡ encode_lower b → t1 ≡ t0 ++ 34 ∷ (shown ++ 34 ∷ []) → t1 ≡ t0 ++ compact_text (octets_data b)
digits_pushed b bytes t0 t1 shown is one = one ∙ ap (λ x. t0 ++ 34 ∷ (x ++ 34 ∷ [])) (is ∙ sym (digits_plain b bytes))

bytes_of : (b : List ℕ) → IsOctets b → IsBytes b
bytes_of [] h i = omega arith
bytes_of (x ∷ b) h zero = h.0
bytes_of (x ∷ b) h (suc i) = bytes_of b h.1 i

some_is : (x y : Text) → ◌≡◌ {A = Option Text} (Some x) (Some y) → x ≡ y
some_is x y e = ap text_in e where
  text_in : Option Text → Text
  text_in None = []
  text_in (Some z) = z

-- the digits of a value
pub value_pushed : (d : Data) (t0 t1 part : Text) → ∥ AreDigits d ∥₁ → ◌≡◌ {A = Option Text} (Some part) (as_str d) → t1 ≡ t0 ++ 34 ∷ (part ++ 34 ∷ []) → t1 ≡ t0 ++ compact_text d
value_pushed d t0 t1 part digits found one = ∥∥₁_elim digits (Coded-set (coded_list coded_ℕ) _ _) (λ h. pushed h) where
  pushed : AreDigits d → t1 ≡ t0 ++ compact_text d
  pushed (b, octets, is) =
      digits_pushed b (bytes_of b octets) t0 t1 part (some_is part (encode_lower b) (found ∙ ap as_str is)) one ∙ ap (λ x. t0 ++ compact_text x) (sym is)

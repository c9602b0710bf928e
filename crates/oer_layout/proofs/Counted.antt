-- How many digits a number has, and how many characters a text.
use Rattle.std.proofs.Common.{◌≡◌, ◌∙◌, ℕ, ◌+◌, ◌/◌, ◌<◌, ◌≤◌, ◌^◌, List, length, ap, subst, arith, IsUtf8, length-append, Bool}
use Rattle.std.proofs.lemmas.Bool.Decides.{nat_tests}
use Rattle.std.proofs.lemmas.Fmt.{decimal_digit, decimal_step}
use Rattle.std.proofs.lemmas.Str.{encodes-chars, length-le-encodes}
use Rattle.std.specs.Str.{chars}
use Rattle.oer_layout.specs.Layout.{digits_of, value_shown}
use Rattle.oer_places.specs.Parts.{count_of}

pub digits_one : (n : ℕ) → n < 10 → digits_of n ≡ 1
digits_one n h = ap length (decimal_digit n h)

pub digits_more : (n : ℕ) → 10 ≤ n → n < 2 ^ 64 → digits_of n ≡ digits_of (n / 10) + 1
digits_more n h l = ap length (decimal_step n h l) ∙ simp length-append

-- no more characters than octets
pub count_least : (text : List ℕ) → IsUtf8 text → count_of text ≤ length text
count_least text h = subst (λ t. count_of text ≤ length t) (encodes-chars text h) (length-le-encodes (chars text))

-- what has room is shown as it is
pub value_uncut : (is_digits : Bool) (room : ℕ) (value : List ℕ) → count_of value ≤ room → value_shown is_digits room value ≡ value
value_uncut is_digits room value h = grind (arith, nat_tests)

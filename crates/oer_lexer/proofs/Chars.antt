-- Which characters are what.
use Rattle.std.proofs.Common.{◌≡◌, ℕ, ◌≤◌, true, false, ◌==◌, arith}
use Rattle.std.specs.Prelude.{nat_lt}
use Rattle.std.proofs.lemmas.Bool.Decides.{nat_tests}
use Rattle.std.specs.Char.{is_ascii_alphabetic, is_ascii_digit, is_ascii_hexdigit}
use Rattle.oer_lexer.specs.Characters.{is_space, is_bit, hyphen, quote, double_quote, slash}

pub letter_no_space : (c : ℕ) → is_ascii_alphabetic c ≡ true → is_space c ≡ false
letter_no_space c h = grind (arith, nat_tests)

pub letter_no_hyphen : (c : ℕ) → is_ascii_alphabetic c ≡ true → c == hyphen ≡ false
letter_no_hyphen c h = grind (arith, nat_tests)

pub letter_no_slash : (c : ℕ) → is_ascii_alphabetic c ≡ true → c == slash ≡ false
letter_no_slash c h = grind (arith, nat_tests)

pub digit_no_space : (c : ℕ) → is_ascii_digit c ≡ true → is_space c ≡ false
digit_no_space c h = grind (arith, nat_tests)

pub digit_no_hyphen : (c : ℕ) → is_ascii_digit c ≡ true → c == hyphen ≡ false
digit_no_hyphen c h = grind (arith, nat_tests)

pub digit_no_slash : (c : ℕ) → is_ascii_digit c ≡ true → c == slash ≡ false
digit_no_slash c h = grind (arith, nat_tests)

pub digit_no_letter : (c : ℕ) → is_ascii_digit c ≡ true → is_ascii_alphabetic c ≡ false
digit_no_letter c h = grind (arith, nat_tests)

pub digit_no_quote : (c : ℕ) → is_ascii_digit c ≡ true → c == quote ≡ false
digit_no_quote c h = grind (arith, nat_tests)

pub digit_no_double_quote : (c : ℕ) → is_ascii_digit c ≡ true → c == double_quote ≡ false
digit_no_double_quote c h = grind (arith, nat_tests)

pub bit_is_hexadecimal : (c : ℕ) → is_bit c ≡ true → is_ascii_hexdigit c ≡ true
bit_is_hexadecimal c h = grind (arith, nat_tests)

pub high_enough : (c : ℕ) → 32 ≤ c → nat_lt c 32 ≡ false
high_enough c h = grind (arith, nat_tests)

pub not_low : (c : ℕ) → nat_lt c 32 ≡ false → 32 ≤ c
not_low c h = grind (arith, nat_tests)

pub no_quote : (c : ℕ) → (c ≡ double_quote → ⊥) → c == double_quote ≡ false
no_quote c h = grind (arith, nat_tests)

pub is_no_quote : (c : ℕ) → c == double_quote ≡ false → c ≡ double_quote → ⊥
is_no_quote c h e = let no : 34 == 34 ≡ false = rw e at h in cc

-- Which characters are what.
use Rattle.std.proofs.Common.{◌≡◌, ℕ, ◌<◌, true, false, ◌==◌, Some, None, arith}
use Rattle.std.proofs.lemmas.Bool.Decides.{nat_tests}
use Rattle.oer_input.specs.Base64.{is_space, sextet_of}
use Rattle.oer_input.specs.Hex.{digit_of, is_separator, is_x}

pub separator_no_zero : (c : ℕ) → is_separator c ≡ true → c == 48 ≡ false
separator_no_zero c h = grind (arith, nat_tests)

pub digit_no_separator : (c u : ℕ) → digit_of c ≡ Some u → is_separator c ≡ false
digit_no_separator c u h = grind (arith, nat_tests)

pub digit_no_x : (c u : ℕ) → digit_of c ≡ Some u → is_x c ≡ false
digit_no_x c u h = grind (arith, nat_tests)

pub sextet_no_space : (c n : ℕ) → sextet_of c ≡ Some n → is_space c ≡ false
sextet_no_space c n h = grind (arith, nat_tests)

pub sextet_no_padding : (c n : ℕ) → sextet_of c ≡ Some n → c == 61 ≡ false
sextet_no_padding c n h = grind (arith, nat_tests)

pub sextet_below : (c n : ℕ) → sextet_of c ≡ Some n → n < 64
sextet_below c n h = grind (arith, nat_tests)

pub space_no_sextet : (c : ℕ) → is_space c ≡ true → sextet_of c ≡ None
space_no_sextet c h = grind (arith, nat_tests)

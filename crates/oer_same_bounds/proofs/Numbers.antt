-- The numbers that are written.
use Rattle.std.proofs.Common.{◌≡◌, ℕ, ◌^◌, ◌<◌, List, [], ◌∷◌, Bool, true, false, ℤ, pos, Some, refl, sym, ap, arith}
use Rattle.std.specs.Prelude.{FitsSigned}
use Rattle.std.specs.Int.{w128}
use Rattle.oer_lexer.specs.Token as own
use Rattle.oer_module_lexer.specs.Token.{Token, number}
use Rattle.oer_module_values.specs.Digits.{whole_of}
use Rattle.oer_notation.specs.Grammar.{IsInteger, an_integer, IsNatural, a_natural}
use Rattle.oer_same_items.proofs.Whole.{IsWhole, from_zero, below_zero, integer_whole, same_digits, whole_found}
use Rattle.oer_same_tokens.specs.Same.{same_token}
use Rattle.oer_same_bounds.proofs.Rows.{numeral_tokens}

-- the tokens of modules for a number: digits, perhaps with a hyphen in front, which write it
pub record Numeral (z : ℤ) (t : own.Token) : Type 0 where
  pub minus : Bool
  pub numeral : List ℕ
  pub writes : whole_of minus numeral ≡ Some z
  pub are : same_token t ≡ numeral_tokens minus numeral

numeral_by : {z : ℤ} {ts : List Token} → IsWhole z ts → FitsSigned w128 z → (t : own.Token) → same_token t ≡ ts → Numeral z t
numeral_by {z} (from_zero {w} a) fits t e = record { minus = false; numeral = w; writes = whole_found false w z a fits; are = e }
numeral_by {z} (below_zero {w} a) fits t e = record { minus = true; numeral = w; writes = whole_found true w z a fits; are = e }

pub numeral_of : {z : ℤ} {t : own.Token} → IsInteger w128 z t → Numeral z t
numeral_of (an_integer {z} {w} n e fits) = numeral_by (integer_whole {width = w128} (an_integer {w = w} n e fits)) fits (own.number w) refl

-- a token of modules for a number without a sign, below 2^64
pub record Natural (n : ℕ) (t : own.Token) : Type 0 where
  pub numeral : List ℕ
  pub writes : whole_of false numeral ≡ Some (pos n)
  pub are : same_token t ≡ number numeral ∷ []

below_fits : (n : ℕ) → n < 2 ^ 64 → FitsSigned w128 (pos n)
below_fits n h = record { sfits = omega arith }

pub natural_of : {n : ℕ} {t : own.Token} → IsNatural (2 ^ 64) n t → Natural n t
natural_of (a_natural {n} {w} num e below) =
    record { numeral = w; writes = whole_found false w (pos n) (record { numeral = num; is = ap pos (sym e) }) (below_fits n below); are = same_digits w num }

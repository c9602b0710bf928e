-- How many digits numbers have.
use Rattle.std.proofs.Common.{◌≡◌, ◌≤◌, ◌<◌, ◌^◌, ◌+◌, ℕ, suc, ℤ, pos, negsuc, List, length, Bool, true, false, Option, Some, None, refl, if◌then◌else◌, arith}
use Rattle.std.specs.Prelude.{FitsSigned, nat_lt}
use Rattle.std.specs.Fmt.{decimal, signed_decimal}
use Rattle.std.specs.Int.{w64, w128}
use Rattle.std.proofs.lemmas.Bool.{ltb-true}
use Rattle.std.proofs.lemmas.Fmt.{length-decimal-le_wide}
use Rattle.oer_module_leaves.specs.Texts.{long}

-- one of 128 bits
pub wide_digits : (z : ℤ) → FitsSigned w128 z → length (signed_decimal z) ≤ 40
wide_digits (pos n) h =
    let few = length-decimal-le_wide 39 n (omega arith) (omega (arith, h.sfits)) (omega (arith, h.sfits)) in omega (arith, few)
wide_digits (negsuc n) h =
    let few = length-decimal-le_wide 39 (suc n) (omega arith) (omega (arith, h.sfits)) (omega (arith, h.sfits)) in omega (arith, few)

-- one of 64 bits
pub short_digits : (z : ℤ) → FitsSigned w64 z → length (signed_decimal z) ≤ 20
short_digits (pos n) h =
    let few = length-decimal-le_wide 19 n (omega arith) (omega (arith, h.sfits)) (omega (arith, h.sfits)) in omega (arith, few)
short_digits (negsuc n) h =
    let few = length-decimal-le_wide 19 (suc n) (omega arith) (omega (arith, h.sfits)) (omega (arith, h.sfits)) in omega (arith, few)

-- one of 32 bits without a sign
pub tag_digits : (n : ℕ) → n < 2 ^ 32 → length (signed_decimal (pos n)) ≤ 10
tag_digits n h = length-decimal-le_wide 10 n (omega arith) (omega (arith, h)) (omega (arith, h))

-- an end of a size
pub size_digits : (z : ℤ) (k : ℕ) → long z ≡ Some k → length (signed_decimal z) ≤ 20
size_digits (pos n) k e = by (nat_lt n (2 ^ 64)) refl e where
  by : (b : Bool) → nat_lt n (2 ^ 64) ≡ b → (if b then Some n else None) ≡ Some k → length (signed_decimal (pos n)) ≤ 20
  by true less e = let few = ltb-true n (2 ^ 64) less in length-decimal-le_wide 20 n (omega arith) (omega (arith, few)) (omega (arith, few))
  by false more e = absurd (cc)
size_digits (negsuc n) k e = absurd (cc)

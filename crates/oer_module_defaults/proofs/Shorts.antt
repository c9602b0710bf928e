-- Numbers of 16 bits without a sign.
use Rattle.std.proofs.Common.{◌≡◌, ℕ, ◌<◌, Some, None, Bool, true, false, ℤ, pos, negsuc, nat_lt, cond, refl, lt-ltb, arith}
use Rattle.std.proofs.lemmas.Bool.{ltb-true}
use Rattle.std.proofs.lemmas.Int.{ints}
use Rattle.std.specs.Int.{FitsUnsigned, w16}
use Rattle.std.specs.Prelude.{◌≤ℤ◌, ◌<ℤ◌, unsigned_abs}
use Rattle.oer_module_defaults.specs.Bits.{short}

none_if : {A : Type 0} (b : Bool) (x : A) → (b ≡ true → ⊥) → None ≡ cond b (Some x) None
none_if true x h = absurd (h refl)
none_if false x h = refl

below : (k : ℕ) → pos k <ℤ pos 65536 → k < 65536
below k h = omega (arith, ints)

fits : (k : ℕ) → k < 65536 → (pos 0 ≤ℤ pos k) × (pos k <ℤ pos 65536)
fits k h = (omega (arith, ints), omega (arith, ints))

no_negative : (k : ℕ) → pos 0 ≤ℤ negsuc k → ⊥
no_negative k h = omega (arith, ints)

pub short_some : (z : ℤ) (n : ℕ) → FitsUnsigned w16 z → n ≡ unsigned_abs z → Some n ≡ short z
short_some (pos k) n h e = rw (e, lt-ltb k 65536 (below k h.1)) refl
short_some (negsuc k) n h e = absurd (no_negative k h.0)

pub short_none : (z : ℤ) → (FitsUnsigned w16 z → ⊥) → None ≡ short z
short_none (pos k) h = none_if (nat_lt k 65536) k (λ e. h (fits k (ltb-true k 65536 e)))
short_none (negsuc k) h = refl

-- Numbers of a length.
use Rattle.std.proofs.Common.{◌≡◌, ℕ, ◌+◌, ◌-◌, ◌*◌, ◌%◌, ◌^◌, ◌<◌, ◌≤◌, refl, arith, lit<}
use Rattle.std.proofs.Math.Nat.{pow-le-pow_right}
use Rattle.std.proofs.lemmas.Nat.{mod_below, one_shl, pow_pos}
use Rattle.oer_random.specs.Words.{of_length}

pub size_is : (k : ℕ) → k < 127 → 1 * 2 ^ k % 340282366920938463463374607431768211456 ≡ 2 ^ k
size_is k l = one_shl k 128 (omega (arith, l))

-- at most half of the numbers of 127 bits
few : (k : ℕ) → k < 127 → 2 ^ k ≤ 85070591730234615865843651857942052864
few k l = let h : k ≤ 126 = omega (arith, l) in pow-le-pow_right {n = 2} (lit< tt) h

pub length_below : (k n : ℕ) → k < 127 → 2 ^ k - 1 + n % 2 ^ k < 170141183460469231731687303715884105728
length_below k n l = let a = few k l in let b = mod_below n (2 ^ k) (pow_pos k) in omega (arith, a, b)

pub length_is : (k n : ℕ) → 2 ^ k - 1 + n % 2 ^ k ≡ of_length k n
unfolding of_length
length_is k n = refl

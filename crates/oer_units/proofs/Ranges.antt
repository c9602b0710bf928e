-- Numbers of so many bits.
use Rattle.std.proofs.Common.{◌≡◌, ℕ, ◌*◌, ◌^◌, Bool, true, false, ◌&&◌, ℤ, pos, negsuc, neg_ℤ, ◌-ℤ◌, ◌≤ℤ◌, int_le, refl, arith, T, subst, sym}
use Rattle.std.proofs.lemmas.Bool.{false≢true}
use Rattle.std.proofs.lemmas.Int.{ints}
use Rattle.oer_units.specs.Reading.{is_int64}
use Rattle.oer_units.proofs.Spelling.{Within}
use lib.Signed.{le_z_yes}

pub int_le-true : (a b : ℤ) → int_le a b ≡ true → a ≤ℤ b
int_le-true a b e = le_z_yes (subst T (sym e) tt)

pub and_left : (a b : Bool) → (a && b) ≡ true → a ≡ true
and_left true b e = refl
and_left false b e = absurd (false≢true e)

pub and_right : (a b : Bool) → (a && b) ≡ true → b ≡ true
and_right true b e = e
and_right false b e = absurd (false≢true e)

pub within_bits : (k : ℕ) (x : ℤ) → int_le (neg_ℤ (pos (2 ^ k))) x ≡ true → int_le x (pos (2 ^ k) -ℤ pos 1) ≡ true → Within (2 * 2 ^ k) x
within_bits k (pos n) a b = let i = int_le-true (pos n) (pos (2 ^ k) -ℤ pos 1) b in omega (arith, ints)
within_bits k (negsuc n) a b = let i = int_le-true (neg_ℤ (pos (2 ^ k))) (negsuc n) a in omega (arith, ints)

pub enum_within : (x : ℤ) → is_int64 x ≡ true → Within (2 ^ 64) x
unfolding is_int64
enum_within x e =
    let l = int_le (neg_ℤ (pos (2 ^ 63))) x in
    let h = int_le x (pos (2 ^ 63) -ℤ pos 1) in
    within_bits 63 x (and_left l h e) (and_right l h e)

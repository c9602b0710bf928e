-- Numbers that JSON holds.
use Rattle.std.proofs.Common.{◌≡◌, ℕ, ◌^◌, ℤ, pos, Bool, true, false, cond, Some, None, refl, ap, nat_lt}
use Rattle.serde_json.specs.Data.{Num, unsigned, negative, float}
use Rattle.serde_json.specs.Find.{as_i64, as_u64, as_integer}

some_of : (b : Bool) (n : ℕ) (z : ℤ) → cond b (Some (pos n)) None ≡ Some z → pos n ≡ z
some_of true n z h = cc
some_of false n z h = absurd (cc)

pub held_signed : (n : Num) (z : ℤ) → as_i64 n ≡ Some z → as_integer n ≡ Some z
held_signed (unsigned n) z h = ap Some (some_of (nat_lt n (2 ^ 63)) n z h)
held_signed (negative y) z h = h
held_signed (float x) z h = h

pub held_unsigned : (n : Num) (m : ℕ) → as_u64 n ≡ Some m → as_integer n ≡ Some (pos m)
held_unsigned (unsigned n) m h = let e : n ≡ m = cc in ap (λ x. Some (pos x)) e
held_unsigned (negative y) m h = absurd (cc)
held_unsigned (float x) m h = absurd (cc)

pub not_held : (n : Num) → as_i64 n ≡ None → as_u64 n ≡ None → as_integer n ≡ None
not_held (unsigned n) h k = absurd (cc)
not_held (negative y) h k = absurd (cc)
not_held (float x) h k = refl

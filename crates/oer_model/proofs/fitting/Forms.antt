-- What is within the bounds can be written in the form that they choose.
use Rattle.std.proofs.Common.{◌≡◌, ℕ, ◌*◌, ◌^◌, ◌<◌, ◌≤◌, Bool, true, false, if◌then◌else◌, ◌&&◌, ℤ, pos, negsuc, neg_ℤ, ◌-ℤ◌, ◌≤ℤ◌, int_le, Option, Some, None, refl, arith}
use Rattle.std.proofs.lemmas.Bool.{false≢true}
use Rattle.std.proofs.lemmas.Int.{ints}
use Rattle.oer_units.proofs.Ranges.{int_le-true, and_left, and_right, within_bits}
use Rattle.oer_units.proofs.Spelling.{Within}
use Rattle.oer_model.specs.Constraints.{low_from, high_to, above, below, in_range, Form, unsigned_fixed, signed_fixed, unsigned_counted, signed_counted, form_of, unsigned_form, signed_form}

-- the number can be written in the form
abbrev pub FitsForm : Form → ℤ → Type 0
FitsForm (unsigned_fixed k) z = (n : ℕ) × (z ≡ pos n) × (n < 256 ^ k)
FitsForm (signed_fixed k) z = (1 ≤ k) × Within (256 ^ k) z
FitsForm unsigned_counted z = (n : ℕ) × (z ≡ pos n) × (2 * n < 2 ^ 128)
FitsForm signed_counted z = Within (2 ^ 128) z

abbrev IsWithin : Option ℤ → Option ℤ → ℤ → Type 0
IsWithin low high x = (above low x ≡ true) × (below high x ≡ true)

at_least : (low : Option ℤ) (z x : ℤ) → above low x ≡ true → low_from z low ≡ true → z ≤ℤ x
at_least None z x h e = absurd (false≢true e)
at_least (Some low) z x h e = let k = int_le-true z low e in let j = int_le-true low x h in omega (arith, ints)

at_most : (high : Option ℤ) (z x : ℤ) → below high x ≡ true → high_to z high ≡ true → x ≤ℤ z
at_most None z x h e = absurd (false≢true e)
at_most (Some high) z x h e = let k = int_le-true high z e in let j = int_le-true x high h in omega (arith, ints)

pick : (c : Bool) (f g : Form) (x : ℤ) → (c ≡ true → FitsForm f x) → FitsForm g x → FitsForm (if c then f else g) x
pick true f g x p q = p refl
pick false f g x p q = q

below_pos : (n m : ℕ) → pos n ≤ℤ pos m → n ≤ m
below_pos n m h = omega (arith, ints)

above_neg : (n m : ℕ) → negsuc m ≤ℤ negsuc n → n ≤ m
above_neg n m h = omega (arith, ints)

unsigned_fits : (high : Option ℤ) (n : ℕ) → below high (pos n) ≡ true → 2 * n < 2 ^ 128 → FitsForm (unsigned_form high) (pos n)
unsigned_fits high n h w =
    pick (high_to (pos 255) high) _ _ (pos n) (λ e. (n, refl, omega (arith, below_pos n 255 (at_most high (pos 255) (pos n) h e))))
    (pick (high_to (pos 65535) high) _ _ (pos n) (λ e. (n, refl, omega (arith, below_pos n 65535 (at_most high (pos 65535) (pos n) h e))))
    (pick (high_to (pos 4294967295) high) _ _ (pos n) (λ e. (n, refl, omega (arith, below_pos n 4294967295 (at_most high (pos 4294967295) (pos n) h e))))
    (pick (high_to (pos 18446744073709551615) high) _ _ (pos n) (λ e. (n, refl, omega (arith, below_pos n 18446744073709551615 (at_most high (pos 18446744073709551615) (pos n) h e))))
    (n, refl, omega arith))))

between : (p m : ℕ) (x : ℤ) → negsuc m ≤ℤ x → x ≤ℤ pos m → 2 * m < p → Within p x
between p m (pos n) a b h = omega (arith, below_pos n m b)
between p m (negsuc n) a b h = omega (arith, above_neg n m a)

signed_fits : (low high : Option ℤ) (x : ℤ) → IsWithin low high x → Within (2 ^ 128) x → FitsForm (signed_form low high) x
signed_fits low high x h w =
    pick (low_from (negsuc 127) low && high_to (pos 127) high) _ _ x (λ e. (omega arith, between (256 ^ 1) 127 x (at_least low (negsuc 127) x h.0 (and_left _ (high_to (pos 127) high) e)) (at_most high (pos 127) x h.1 (and_right (low_from (negsuc 127) low) _ e)) (omega arith)))
    (pick (low_from (negsuc 32767) low && high_to (pos 32767) high) _ _ x (λ e. (omega arith, between (256 ^ 2) 32767 x (at_least low (negsuc 32767) x h.0 (and_left _ (high_to (pos 32767) high) e)) (at_most high (pos 32767) x h.1 (and_right (low_from (negsuc 32767) low) _ e)) (omega arith)))
    (pick (low_from (negsuc 2147483647) low && high_to (pos 2147483647) high) _ _ x (λ e. (omega arith, between (256 ^ 4) 2147483647 x (at_least low (negsuc 2147483647) x h.0 (and_left _ (high_to (pos 2147483647) high) e)) (at_most high (pos 2147483647) x h.1 (and_right (low_from (negsuc 2147483647) low) _ e)) (omega arith)))
    (pick (low_from (negsuc 9223372036854775807) low && high_to (pos 9223372036854775807) high) _ _ x (λ e. (omega arith, between (256 ^ 8) 9223372036854775807 x (at_least low (negsuc 9223372036854775807) x h.0 (and_left _ (high_to (pos 9223372036854775807) high) e)) (at_most high (pos 9223372036854775807) x h.1 (and_right (low_from (negsuc 9223372036854775807) low) _ e)) (omega arith)))
    w)))

by_low : (c : Bool) (low high : Option ℤ) (x : ℤ) → low_from (pos 0) low ≡ c → IsWithin low high x → Within (2 ^ 128) x → FitsForm (if c then unsigned_form high else signed_form low high) x
by_low true low high (pos n) e h w = unsigned_fits high n h.1 w
by_low true low high (negsuc n) e h w = let k = at_least low (pos 0) (negsuc n) h.0 e in absurd (omega (arith, ints))
by_low false low high x e h w = signed_fits low high x h w

pub form_fits : (low high : Option ℤ) (x : ℤ) → in_range low high x ≡ true → FitsForm (form_of low high) x
unfolding form_of in_range
form_fits low high x e =
    let l = int_le (neg_ℤ (pos (2 ^ 127))) x in
    let h = int_le x (pos (2 ^ 127) -ℤ pos 1) in
    let three = and_left (l && h && above low x) (below high x) e in
    let two = and_left (l && h) (above low x) three in
    by_low (low_from (pos 0) low) low high x refl (and_right (l && h) (above low x) three, and_right (l && h && above low x) (below high x) e)
    (within_bits 127 x (and_left l h two) (and_right l h two))

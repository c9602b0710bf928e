-- The last bits of an octet, and its remainder.
use Rattle.std.proofs.Common.{◌≡◌, ◌≢◌, ℕ, zero, suc, ◌-◌, ◌*◌, ◌/◌, ◌%◌, ◌^◌, ◌≤◌, Bool, true, not, ◌&&◌, eqb, [], ◌∷◌, drop, arith, refl, sym, ap, ◌∙◌}
use Rattle.std.proofs.lemmas.Bool.{ne_eqb}
use Rattle.oer_model.specs.Bits.{all_false, bit, bits_of}

-- one bit more: b is the bit, r the remainder below it and w the one with it
step : (b r w : ℕ) (f : Bool) → (b ≡ 0 → w ≡ r) → (b ≡ 1 → w ≢ 0) → b ≤ 1 → f ≡ eqb r 0 → (not (eqb b 1) && f) ≡ eqb w 0
step zero r w f same other le is = is ∙ ap (λ (k : ℕ). eqb k 0) (sym (same refl))
step (suc zero) r w f same other le is = sym (ne_eqb w 0 (other refl))
step (suc (suc b)) r w f same other le is = absurd (omega arith)

none : (x : ℕ) → true ≡ eqb (x % 1) 0
none x = let e : x % 1 ≡ 0 = omega arith in rw e refl

one : (x : ℕ) → (not (bit x 0) && true) ≡ eqb (x % 2) 0
unfolding bit
one x = step ((x / 1) % 2) (x % 1) (x % 2) true (λ e. omega arith) (λ e. omega arith) (omega arith) (none x)

two : (x : ℕ) → (not (bit x 1) && (not (bit x 0) && true)) ≡ eqb (x % 4) 0
unfolding bit
two x = step ((x / 2) % 2) (x % 2) (x % 4) _ (λ e. omega arith) (λ e. omega arith) (omega arith) (one x)

three : (x : ℕ) → (not (bit x 2) && (not (bit x 1) && (not (bit x 0) && true))) ≡ eqb (x % 8) 0
unfolding bit
three x = step ((x / 4) % 2) (x % 4) (x % 8) _ (λ e. omega arith) (λ e. omega arith) (omega arith) (two x)

four : (x : ℕ) → (not (bit x 3) && (not (bit x 2) && (not (bit x 1) && (not (bit x 0) && true)))) ≡ eqb (x % 16) 0
unfolding bit
four x = step ((x / 8) % 2) (x % 8) (x % 16) _ (λ e. omega arith) (λ e. omega arith) (omega arith) (three x)

five : (x : ℕ) → (not (bit x 4) && (not (bit x 3) && (not (bit x 2) && (not (bit x 1) && (not (bit x 0) && true))))) ≡ eqb (x % 32) 0
unfolding bit
five x = step ((x / 16) % 2) (x % 16) (x % 32) _ (λ e. omega arith) (λ e. omega arith) (omega arith) (four x)

six : (x : ℕ) → (not (bit x 5) && (not (bit x 4) && (not (bit x 3) && (not (bit x 2) && (not (bit x 1) && (not (bit x 0) && true)))))) ≡ eqb (x % 64) 0
unfolding bit
six x = step ((x / 32) % 2) (x % 32) (x % 64) _ (λ e. omega arith) (λ e. omega arith) (omega arith) (five x)

seven : (x : ℕ) → (not (bit x 6) && (not (bit x 5) && (not (bit x 4) && (not (bit x 3) && (not (bit x 2) && (not (bit x 1) && (not (bit x 0) && true))))))) ≡ eqb (x % 128) 0
unfolding bit
seven x = step ((x / 64) % 2) (x % 64) (x % 128) _ (λ e. omega arith) (λ e. omega arith) (omega arith) (six x)

pub low_bits : (u x : ℕ) → u ≤ 7 → eqb (x % 2 ^ u) 0 ≡ all_false (drop (8 - u) (bits_of (x ∷ [])))
low_bits zero x le = sym (none x)
low_bits (suc zero) x le = sym (one x)
low_bits (suc (suc zero)) x le = sym (two x)
low_bits (suc (suc (suc zero))) x le = sym (three x)
low_bits (suc (suc (suc (suc zero)))) x le = sym (four x)
low_bits (suc (suc (suc (suc (suc zero))))) x le = sym (five x)
low_bits (suc (suc (suc (suc (suc (suc zero)))))) x le = sym (six x)
low_bits (suc (suc (suc (suc (suc (suc (suc zero))))))) x le = sym (seven x)
low_bits (suc (suc (suc (suc (suc (suc (suc (suc u)))))))) x le = absurd (omega arith)

-- what a shift of 1 makes
pub shifted : (u : ℕ) → u ≤ 7 → 1 * 2 ^ u % 256 ≡ 2 ^ u
shifted zero le = refl
shifted (suc zero) le = refl
shifted (suc (suc zero)) le = refl
shifted (suc (suc (suc zero))) le = refl
shifted (suc (suc (suc (suc zero)))) le = refl
shifted (suc (suc (suc (suc (suc zero))))) le = refl
shifted (suc (suc (suc (suc (suc (suc zero)))))) le = refl
shifted (suc (suc (suc (suc (suc (suc (suc zero))))))) le = refl
shifted (suc (suc (suc (suc (suc (suc (suc (suc u)))))))) le = absurd (omega arith)

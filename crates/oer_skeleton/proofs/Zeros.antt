-- Bits, octets and characters of zeros.
use Rattle.std.proofs.Common.{◌≡◌, ℕ, zero, suc, ◌*◌, ◌≤◌, ◌∷◌, take, false, refl, sym, ap, ◌∙◌, arith}
use Rattle.std.proofs.Math.ListN.{replicate}
use Rattle.std.proofs.lemmas.List.{take-replicate}
use Rattle.oer_model.specs.Bits.{bit, bits_of, octets_for}

-- the bits of octets 0
eight : (n : ℕ) → replicate (8 * suc n) false ≡ false ∷ false ∷ false ∷ false ∷ false ∷ false ∷ false ∷ false ∷ replicate (8 * n) false
eight n = let e : 8 * suc n ≡ suc (suc (suc (suc (suc (suc (suc (suc (8 * n)))))))) = omega arith in ap (λ k. replicate k false) e

bits_zero : (n : ℕ) → bits_of (replicate n 0) ≡ replicate (8 * n) false
unfolding bit
bits_zero zero = refl
bits_zero (suc n) = ap (λ s. false ∷ false ∷ false ∷ false ∷ false ∷ false ∷ false ∷ false ∷ s) (bits_zero n) ∙ sym (eight n)

enough : (n : ℕ) → n ≤ 8 * octets_for n
unfolding octets_for
enough n = omega arith

pub zero_bits : (n : ℕ) → take n (bits_of (replicate (octets_for n) 0)) ≡ replicate n false
zero_bits n = ap (take n) (bits_zero (octets_for n)) ∙ take-replicate n (8 * octets_for n) false (enough n)

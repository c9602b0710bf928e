-- Lists of bits have one spelling.
use Rattle.std.proofs.Common.{◌≡◌, ℕ, zero, suc, ◌/◌, ◌%◌, ◌^◌, ◌<◌, List, [], ◌∷◌, ◌++◌, length, Bool, true, false, eqb, refl, ap, ap₂, sym, ◌∙◌, subst, arith, length-append}
use Rattle.oer_units.specs.Octets.{IsOctets}
use Rattle.oer_model.proofs.reading.Parts.{length-bits_of}
use Rattle.oer_model.specs.Bits.{bit, bits_of, all_false}
use Rattle.oer_model.specs.Strict.{StrictBits, StrictPreamble}

bit_same : (a b : ℕ) → a < 2 → b < 2 → eqb a 1 ≡ eqb b 1 → a ≡ b
bit_same zero zero l m e = refl
bit_same zero (suc zero) l m e = absurd (cc)
bit_same (suc zero) zero l m e = absurd (cc)
bit_same (suc zero) (suc zero) l m e = refl
bit_same (suc (suc a)) b l m e = absurd (omega arith)
bit_same zero (suc (suc b)) l m e = absurd (omega arith)
bit_same (suc zero) (suc (suc b)) l m e = absurd (omega arith)

bit_is : (x y i : ℕ) → bit x i ≡ bit y i → (x / 2 ^ i) % 2 ≡ (y / 2 ^ i) % 2
unfolding bit
bit_is x y i e = bit_same ((x / 2 ^ i) % 2) ((y / 2 ^ i) % 2) (omega arith) (omega arith) e

octet_is : (x y : ℕ) → x < 256 → y < 256 → (x / 128) % 2 ≡ (y / 128) % 2 → (x / 64) % 2 ≡ (y / 64) % 2 → (x / 32) % 2 ≡ (y / 32) % 2 → (x / 16) % 2 ≡ (y / 16) % 2
    → (x / 8) % 2 ≡ (y / 8) % 2 → (x / 4) % 2 ≡ (y / 4) % 2 → (x / 2) % 2 ≡ (y / 2) % 2 → x % 2 ≡ y % 2 → x ≡ y
octet_is x y l m a b c d e f g h = omega arith

bits_are_one : (p q : List ℕ) → IsOctets p → IsOctets q → bits_of p ≡ bits_of q → p ≡ q
bits_are_one [] [] o o' e = refl
bits_are_one [] (y ∷ q) o o' e = absurd (cc)
bits_are_one (x ∷ p) [] o o' e = absurd (cc)
bits_are_one (x ∷ p) (y ∷ q) (l, o) (l', o') e =
    ap₂ (λ x y. x ∷ y)
    (octet_is x y l l' (bit_is x y 7 (cc)) (bit_is x y 6 (cc)) (bit_is x y 5 (cc)) (bit_is x y 4 (cc)) (bit_is x y 3 (cc)) (bit_is x y 2 (cc)) (bit_is x y 1 (cc)) (let h = bit_is x y 0 (cc) in omega arith))
    (bits_are_one p q o o' (cc))

false_one : (s t : List Bool) → length s ≡ length t → all_false s ≡ true → all_false t ≡ true → s ≡ t
false_one [] [] n e f = refl
false_one [] (y ∷ t) n e f = absurd (omega arith)
false_one (x ∷ s) [] n e f = absurd (omega arith)
false_one (true ∷ s) t n e f = absurd (cc)
false_one (false ∷ s) (true ∷ t) n e f = absurd (cc)
false_one (false ∷ s) (false ∷ t) n e f = ap (λ s. false ∷ s) (false_one s t (omega arith) e f)

padded_one : (s pad pad' : List Bool) (p q : List ℕ) → IsOctets p → IsOctets q → length pad ≡ length pad' → all_false pad ≡ true → all_false pad' ≡ true → bits_of p ≡ s ++ pad → bits_of q ≡ s ++ pad' → p ≡ q
padded_one s pad pad' p q o o' n zeros zeros' e e' = bits_are_one p q o o' (e ∙ ap (λ pad. s ++ pad) (false_one pad pad' n zeros zeros') ∙ sym e')

pub preamble_one : (s : List Bool) (p q : List ℕ) → StrictPreamble s p → StrictPreamble s q → p ≡ q
preamble_one s p q (o, (pad, n, e, zeros)) (o', (pad', n', e', zeros')) =
    padded_one s pad pad' p q o o' (omega (arith, length-bits_of p, length-bits_of q, ap length e, ap length e', length-append s pad, length-append s pad')) zeros zeros' e e'

pub bits_one : (s : List Bool) (p q : List ℕ) → StrictBits s p → StrictBits s q → p ≡ q
bits_one s p q (o, (u, d, pad, is, low, none, n, zeros, e)) (o', (u', d', pad', is', low', none', n', zeros', e')) =
    let same : u ≡ u' = omega (arith, length-bits_of d, length-bits_of d', ap length e, ap length e', length-append s pad, length-append s pad') in
    is ∙ ap₂ (λ x y. x ∷ y) same (padded_one s pad pad' d d' (subst IsOctets is o).1 (subst IsOctets is' o').1 (omega arith) zeros zeros' e e') ∙ sym is'

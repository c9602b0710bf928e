-- Bits in octets.
use Rattle.std.proofs.Common.{◌≡◌, ◌↔◌, ℕ, zero, suc, ◌+◌, ◌-◌, ◌*◌, ◌/◌, ◌%◌, ◌^◌, ◌<◌, ◌≤◌, List, [], ◌∷◌, length, take, drop, Bool, true, false, eqb, Some, IsTrue, get_or, set, refl, sym, ap, ap₂, ◌∙◌, arith, length-take}
use Rattle.std.proofs.lemmas.List.{take-append-drop, drop_all}
use Rattle.std.proofs.Math.Seq.{take-nil}
use Rattle.std.specs.List.{slice_get}
use Rattle.oer_units.specs.Octets.{IsOctets}
use Rattle.oer_model.specs.Bits.{bit, bits_of, all_false, octets_for, padded}
use Rattle.oer_model.proofs.reading.Parts.{length-bits_of}
use Rattle.oer_model.proofs.bits.Unique.{preamble_one}
use Rattle.oer_model.proofs.bits.LeastBits.{preamble_exists}

-- there are as many bits as are counted
pub bits_counted : (p : List ℕ) (n : ℕ) → length p ≡ octets_for n → length (take n (bits_of p)) ≡ n
unfolding octets_for
bits_counted p n e = simp length-take (omega (arith, length-bits_of p))

-- the octets, where all bits after the first n are zero
pub padded_are : (p : List ℕ) (n : ℕ) → IsOctets p → length p ≡ octets_for n → all_false (drop n (bits_of p)) ≡ true → p ≡ padded (take n (bits_of p))
padded_are p n o m z =
    let k = bits_counted p n m in
    preamble_one (take n (bits_of p)) p (padded (take n (bits_of p))) (o, (drop n (bits_of p), m ∙ ap octets_for (sym k), sym (take-append-drop n (bits_of p)), z)) (preamble_exists (take n (bits_of p)))

-- octets that have as many bits, the same ones and then zeros, are the same
pub packed_same : (p q : List ℕ) (n m : ℕ) → IsOctets p → IsOctets q → length p ≡ octets_for n → length q ≡ octets_for m → all_false (drop n (bits_of p)) ≡ true → all_false (drop m (bits_of q)) ≡ true
    → take n (bits_of p) ≡ take m (bits_of q) → (n ≡ m) × (p ≡ q)
packed_same p q n m o o' l l' z z' e = (sym (bits_counted p n l) ∙ ap length e ∙ bits_counted q m l', padded_are p n o l z ∙ ap padded e ∙ sym (padded_are q m o' l' z'))

pub octets_from : (bs : List ℕ) → ((k : ℕ) → get_or bs k 0 < 256) → IsOctets bs
octets_from [] h = tt
octets_from (b ∷ bs) h = (h 0, octets_from bs (λ k. h (suc k)))

pub needed_whole : (n : ℕ) → n % 8 ≡ 0 → n / 8 ≡ octets_for n
unfolding octets_for
needed_whole n e = omega arith

pub needed_part : (n : ℕ) → (n % 8 ≡ 0 → ⊥) → n / 8 + 1 ≡ octets_for n
unfolding octets_for
needed_part n e = omega arith

-- the bit of the octet in which it stands
pub bit_within : (p : List ℕ) (q r : ℕ) → r < 8 → q < length p → slice_get (bits_of p) (8 * q + r) ≡ Some (bit (get_or p q 0) (7 - r))
bit_within [] q r h l = absurd (omega arith)
bit_within (x ∷ p) zero zero h l = refl
bit_within (x ∷ p) zero (suc zero) h l = refl
bit_within (x ∷ p) zero (suc (suc zero)) h l = refl
bit_within (x ∷ p) zero (suc (suc (suc zero))) h l = refl
bit_within (x ∷ p) zero (suc (suc (suc (suc zero)))) h l = refl
bit_within (x ∷ p) zero (suc (suc (suc (suc (suc zero))))) h l = refl
bit_within (x ∷ p) zero (suc (suc (suc (suc (suc (suc zero)))))) h l = refl
bit_within (x ∷ p) zero (suc (suc (suc (suc (suc (suc (suc zero))))))) h l = refl
bit_within (x ∷ p) zero (suc (suc (suc (suc (suc (suc (suc (suc r)))))))) h l = absurd (omega arith)
bit_within (x ∷ p) (suc q) r h l =
    let e : 8 * suc q + r ≡ suc (suc (suc (suc (suc (suc (suc (suc (8 * q + r)))))))) = omega arith in
    ap (slice_get (bits_of (x ∷ p))) e ∙ bit_within p q r h (omega arith)

bit_kept : (x y i : ℕ) → (x / 2 ^ i) % 2 ≡ (y / 2 ^ i) % 2 → bit x i ≡ bit y i
unfolding bit
bit_kept x y i e = ap (λ n. eqb n 1) e

bit_gone : (x i : ℕ) → (x / 2 ^ i) % 2 ≡ 0 → bit x i ≡ false
unfolding bit
bit_gone x i e = ap (λ n. eqb n 1) e

module _ (x y : ℕ) where
  first_1 : y ≡ x - x % 128 → (take 1 (bits_of (y ∷ [])) ≡ take 1 (bits_of (x ∷ []))) × (all_false (drop 1 (bits_of (y ∷ []))) ≡ true)
  first_1 e =
      let b7 = bit_kept y x 7 (omega arith) in
      let b6 = bit_gone y 6 (omega arith) in
      let b5 = bit_gone y 5 (omega arith) in
      let b4 = bit_gone y 4 (omega arith) in
      let b3 = bit_gone y 3 (omega arith) in
      let b2 = bit_gone y 2 (omega arith) in
      let b1 = bit_gone y 1 (omega arith) in
      let b0 = bit_gone y 0 (omega arith) in
      (cc, cc)

  first_2 : y ≡ x - x % 64 → (take 2 (bits_of (y ∷ [])) ≡ take 2 (bits_of (x ∷ []))) × (all_false (drop 2 (bits_of (y ∷ []))) ≡ true)
  first_2 e =
      let b7 = bit_kept y x 7 (omega arith) in
      let b6 = bit_kept y x 6 (omega arith) in
      let b5 = bit_gone y 5 (omega arith) in
      let b4 = bit_gone y 4 (omega arith) in
      let b3 = bit_gone y 3 (omega arith) in
      let b2 = bit_gone y 2 (omega arith) in
      let b1 = bit_gone y 1 (omega arith) in
      let b0 = bit_gone y 0 (omega arith) in
      (cc, cc)

  first_3 : y ≡ x - x % 32 → (take 3 (bits_of (y ∷ [])) ≡ take 3 (bits_of (x ∷ []))) × (all_false (drop 3 (bits_of (y ∷ []))) ≡ true)
  first_3 e =
      let b7 = bit_kept y x 7 (omega arith) in
      let b6 = bit_kept y x 6 (omega arith) in
      let b5 = bit_kept y x 5 (omega arith) in
      let b4 = bit_gone y 4 (omega arith) in
      let b3 = bit_gone y 3 (omega arith) in
      let b2 = bit_gone y 2 (omega arith) in
      let b1 = bit_gone y 1 (omega arith) in
      let b0 = bit_gone y 0 (omega arith) in
      (cc, cc)

  first_4 : y ≡ x - x % 16 → (take 4 (bits_of (y ∷ [])) ≡ take 4 (bits_of (x ∷ []))) × (all_false (drop 4 (bits_of (y ∷ []))) ≡ true)
  first_4 e =
      let b7 = bit_kept y x 7 (omega arith) in
      let b6 = bit_kept y x 6 (omega arith) in
      let b5 = bit_kept y x 5 (omega arith) in
      let b4 = bit_kept y x 4 (omega arith) in
      let b3 = bit_gone y 3 (omega arith) in
      let b2 = bit_gone y 2 (omega arith) in
      let b1 = bit_gone y 1 (omega arith) in
      let b0 = bit_gone y 0 (omega arith) in
      (cc, cc)

  first_5 : y ≡ x - x % 8 → (take 5 (bits_of (y ∷ [])) ≡ take 5 (bits_of (x ∷ []))) × (all_false (drop 5 (bits_of (y ∷ []))) ≡ true)
  first_5 e =
      let b7 = bit_kept y x 7 (omega arith) in
      let b6 = bit_kept y x 6 (omega arith) in
      let b5 = bit_kept y x 5 (omega arith) in
      let b4 = bit_kept y x 4 (omega arith) in
      let b3 = bit_kept y x 3 (omega arith) in
      let b2 = bit_gone y 2 (omega arith) in
      let b1 = bit_gone y 1 (omega arith) in
      let b0 = bit_gone y 0 (omega arith) in
      (cc, cc)

  first_6 : y ≡ x - x % 4 → (take 6 (bits_of (y ∷ [])) ≡ take 6 (bits_of (x ∷ []))) × (all_false (drop 6 (bits_of (y ∷ []))) ≡ true)
  first_6 e =
      let b7 = bit_kept y x 7 (omega arith) in
      let b6 = bit_kept y x 6 (omega arith) in
      let b5 = bit_kept y x 5 (omega arith) in
      let b4 = bit_kept y x 4 (omega arith) in
      let b3 = bit_kept y x 3 (omega arith) in
      let b2 = bit_kept y x 2 (omega arith) in
      let b1 = bit_gone y 1 (omega arith) in
      let b0 = bit_gone y 0 (omega arith) in
      (cc, cc)

  first_7 : y ≡ x - x % 2 → (take 7 (bits_of (y ∷ [])) ≡ take 7 (bits_of (x ∷ []))) × (all_false (drop 7 (bits_of (y ∷ []))) ≡ true)
  first_7 e =
      let b7 = bit_kept y x 7 (omega arith) in
      let b6 = bit_kept y x 6 (omega arith) in
      let b5 = bit_kept y x 5 (omega arith) in
      let b4 = bit_kept y x 4 (omega arith) in
      let b3 = bit_kept y x 3 (omega arith) in
      let b2 = bit_kept y x 2 (omega arith) in
      let b1 = bit_kept y x 1 (omega arith) in
      let b0 = bit_gone y 0 (omega arith) in
      (cc, cc)

-- the last octet without its unused bits
pub cleared_last : (i n : ℕ) (p : List ℕ) (v : ℕ) → length p ≡ suc i → length p ≡ octets_for n → (n % 8 ≡ 0 → ⊥) → v ≡ get_or p i 0 - get_or p i 0 % 2 ^ (8 - n % 8)
    → (take n (bits_of (set p i v)) ≡ take n (bits_of p)) × (all_false (drop n (bits_of (set p i v))) ≡ true)
unfolding octets_for
cleared_last i n [] v l m h e = absurd (omega arith)
cleared_last zero zero (x ∷ []) v l m h e = absurd (h refl)
cleared_last zero (suc zero) (x ∷ []) v l m h e = first_1 x v e
cleared_last zero (suc (suc zero)) (x ∷ []) v l m h e = first_2 x v e
cleared_last zero (suc (suc (suc zero))) (x ∷ []) v l m h e = first_3 x v e
cleared_last zero (suc (suc (suc (suc zero)))) (x ∷ []) v l m h e = first_4 x v e
cleared_last zero (suc (suc (suc (suc (suc zero))))) (x ∷ []) v l m h e = first_5 x v e
cleared_last zero (suc (suc (suc (suc (suc (suc zero)))))) (x ∷ []) v l m h e = first_6 x v e
cleared_last zero (suc (suc (suc (suc (suc (suc (suc zero))))))) (x ∷ []) v l m h e = first_7 x v e
cleared_last zero (suc (suc (suc (suc (suc (suc (suc (suc n)))))))) (x ∷ []) v l m h e = absurd (let r : n ≡ 0 = omega arith in h (omega arith))
cleared_last zero n (x ∷ y ∷ p) v l m h e = absurd (omega arith)
cleared_last (suc i) zero (x ∷ p) v l m h e = absurd (omega arith)
cleared_last (suc i) (suc zero) (x ∷ p) v l m h e = absurd (omega arith)
cleared_last (suc i) (suc (suc zero)) (x ∷ p) v l m h e = absurd (omega arith)
cleared_last (suc i) (suc (suc (suc zero))) (x ∷ p) v l m h e = absurd (omega arith)
cleared_last (suc i) (suc (suc (suc (suc zero)))) (x ∷ p) v l m h e = absurd (omega arith)
cleared_last (suc i) (suc (suc (suc (suc (suc zero))))) (x ∷ p) v l m h e = absurd (omega arith)
cleared_last (suc i) (suc (suc (suc (suc (suc (suc zero)))))) (x ∷ p) v l m h e = absurd (omega arith)
cleared_last (suc i) (suc (suc (suc (suc (suc (suc (suc zero))))))) (x ∷ p) v l m h e = absurd (omega arith)
cleared_last (suc i) (suc (suc (suc (suc (suc (suc (suc (suc n)))))))) (x ∷ p) v l m h e =
    let rem : suc (suc (suc (suc (suc (suc (suc (suc n))))))) % 8 ≡ n % 8 = omega arith in
    let rest = cleared_last i n p v (omega arith) (omega arith) (λ z. h (rem ∙ z)) (e ∙ ap (λ k. get_or p i 0 - get_or p i 0 % 2 ^ (8 - k)) rem) in
    (let r = rest.0 in cc, rest.1)

pub nothing_unused : (p : List ℕ) (n : ℕ) → length p ≡ octets_for n → n % 8 ≡ 0 → all_false (drop n (bits_of p)) ≡ true
unfolding octets_for
nothing_unused p n l h = let a : length (bits_of p) ≤ n = omega (arith, length-bits_of p) in rw (drop_all n (bits_of p) a)

pub some_needed : (n : ℕ) → (n % 8 ≡ 0 → ⊥) → 1 ≤ octets_for n
unfolding octets_for
some_needed n h = omega arith

pub room_for : (p : List ℕ) (n : ℕ) → length p ≡ octets_for n → n ≤ 8 * length p
unfolding octets_for
room_for p n l = omega arith

pub bit_from_index : (p : List ℕ) (i : ℕ) → i < 8 * length p → Some (eqb (get_or p (i / 8) 0 / 2 ^ (7 - i % 8) % 2) 1) ≡ slice_get (bits_of p) i
unfolding bit
bit_from_index p i h =
    let e : 8 * (i / 8) + i % 8 ≡ i = omega arith in
    sym (ap (slice_get (bits_of p)) (sym e) ∙ bit_within p (i / 8) (i % 8) (omega arith) (omega arith))

pub taken_bit : (s : List Bool) (n i : ℕ) → i < n → slice_get (take n s) i ≡ slice_get s i
taken_bit [] n i h = ap (λ s. slice_get s i) (take-nil n)
taken_bit (x ∷ s) zero i h = absurd (omega arith)
taken_bit (x ∷ s) (suc n) zero h = refl
taken_bit (x ∷ s) (suc n) (suc i) h = taken_bit s n i (omega arith)

-- with as many bits, the octets are the same exactly where the bits are
pub same_bits : (p q : List ℕ) (n m : ℕ) (b : Bool) → IsOctets p → IsOctets q → length p ≡ octets_for n → length q ≡ octets_for m → all_false (drop n (bits_of p)) ≡ true → all_false (drop m (bits_of q)) ≡ true
    → n ≡ m → IsTrue b ↔ (p ≡ q) → IsTrue b ↔ (take n (bits_of p) ≡ take m (bits_of q))
same_bits p q n m b o o' l l' z z' e i = (λ h. ap₂ (λ n p. take n (bits_of p)) e (i.0 h), λ h. i.1 (packed_same p q n m o o' l l' z z' h).1)

pub other_count : (p q : List ℕ) (n m : ℕ) → length p ≡ octets_for n → length q ≡ octets_for m → (n ≡ m → ⊥) → IsTrue false ↔ (take n (bits_of p) ≡ take m (bits_of q))
other_count p q n m l l' h = (λ e. cc, λ e. absurd (h (sym (bits_counted p n l) ∙ ap length e ∙ bits_counted q m l')))

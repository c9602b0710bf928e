-- Hexadecimal digits in quotes are read.
use Rattle.std.proofs.Common.{◌≡◌, ℕ, zero, suc, ◌+◌, ◌*◌, ◌/◌, ◌%◌, ◌≤◌, ◌<◌, List, [], ◌∷◌, ◌++◌, length, take, Bool, true, false, cond, ◌==◌, ⊎_elim, Some, Ok, refl, sym, ap, subst, ◌∙◌, arith, append-nil, leb}
use Rattle.std.proofs.lemmas.Bool.{lt-ltb, leb-true, and_parts, cases_lt}
use Rattle.std.proofs.lemmas.Bool.Decides.{Decides-eqb}
use Rattle.hex.specs.Hex.{decode_pairs}
use Rattle.oer_model.specs.AsnType.{bit_string, default}
use Rattle.oer_model.specs.AsnValue.{bit_list}
use Rattle.oer_model.specs.Bits.{bit, bits_of, octets_for}
use Rattle.oer_model.specs.Fits.{Fits}
use Rattle.oer_model.specs.WellFormed.{IsMisfit}
use Rattle.oer_model.specs.declared.size.Size.{Size}
use Rattle.oer_notation.specs.Grammar.{AreOctets, no_octets, an_octet, AreBits, no_bits, four_bits}
use Rattle.oer_value_notation.specs.Values.{octets_in, bits_from, digit_bits}
use Rattle.oer_notation.proofs.Digits.{digit_below, pair_bits}

same_number : (a b : ℕ) → a ≡ b → a == b ≡ true
same_number a b e = (Decides-eqb a b).1 e

-- ---- hexadecimal digits

pairs_given : (i : ℕ) {w xs : List ℕ} → AreOctets w xs → decode_pairs i w ≡ Ok xs
unfolding decode_pairs
pairs_given i no_octets = refl
pairs_given i (an_octet h l m) = rw (h, l, pairs_given (i + 2) m) refl

even_digits : {w xs : List ℕ} → AreOctets w xs → length w ≡ 2 * length xs
even_digits no_octets = refl
even_digits (an_octet h l m) = let e = even_digits m in omega arith

is_even : (n k : ℕ) → n ≡ 2 * k → n % 2 == 1 ≡ false
is_even n k e = let m : n % 2 ≡ 0 = omega arith in ap (λ x. x == 1) m

pub octets_in_given : {w xs : List ℕ} → AreOctets w xs → octets_in w ≡ Some xs
unfolding octets_in
octets_in_given {w} {xs} m = rw (is_even (length w) (length xs) (even_digits m), pairs_given 0 m) refl

-- bits of an even number of digits are those of octets
pub record Paired (w : List ℕ) (s : List Bool) : Type 0 where
  pub octets : List ℕ
  pub are : AreOctets w octets
  pub bits : bits_of octets ≡ s

pairs_of : (n : ℕ) (w : List ℕ) (s : List Bool) → length w ≡ 2 * n → AreBits w s → Paired w s
pairs_of zero [] _ e no_bits = record { octets = []; are = no_octets; bits = refl }
pairs_of (suc n) [] s e m = absurd (omega arith)
pairs_of zero (c ∷ w) s e m = absurd (omega arith)
pairs_of (suc n) (c ∷ []) s e m = absurd (omega arith)
pairs_of (suc n) (c ∷ d ∷ w) _ e (four_bits {n = high} h (four_bits {n = low} {s = s} l m)) =
    let p = pairs_of n w s (omega arith) m in
    record { octets = (high * 16 + low) ∷ p.octets; are = an_octet h l p.are; bits = sym (pair_bits high low p.octets (digit_below d low l)) ∙ ap (λ s. bit high 3 ∷ bit high 2 ∷ bit high 1 ∷ bit high 0 ∷ bit low 3 ∷ bit low 2 ∷ bit low 1 ∷ bit low 0 ∷ s) p.bits }

-- with a digit 0 at the end
with_nought : {w : List ℕ} {s : List Bool} → AreBits w s → AreBits (w ++ 48 ∷ []) (s ++ bit 0 3 ∷ bit 0 2 ∷ bit 0 1 ∷ bit 0 0 ∷ [])
with_nought no_bits = four_bits refl no_bits
with_nought (four_bits h m) = four_bits h (with_nought m)

pub bits_count : {w : List ℕ} {s : List Bool} → AreBits w s → length s ≡ 4 * length w
bits_count no_bits = refl
bits_count (four_bits h m) = let e = bits_count m in omega arith

take_front : {A : Type 0} (n : ℕ) (s u : List A) → length s ≡ n → take n (s ++ u) ≡ s
take_front zero [] u e = refl
take_front (suc n) [] u e = absurd (omega arith)
take_front zero (x ∷ s) u e = absurd (omega arith)
take_front (suc n) (x ∷ s) u e = ap (λ l. x ∷ l) (take_front n s u (omega arith))

length-nought : (w : List ℕ) → length (w ++ 48 ∷ []) ≡ suc (length w)
length-nought [] = refl
length-nought (x ∷ w) = ap suc (length-nought w)

from_paired : (v w : List ℕ) (s u : List Bool) → Paired v (s ++ u) → length s ≡ 4 * length w → length v ≤ suc (length w) → length w ≤ length v → bits_from (octets_in v) (4 * length w) ≡ Some s
unfolding octets_for
from_paired v w s u p e most least =
    let k = even_digits p.are in
    let n : length p.octets ≡ octets_for (4 * length w) = omega arith in
    rw (octets_in_given p.are, same_number (length p.octets) (octets_for (4 * length w)) n) (ap Some (ap (take (4 * length w)) p.bits ∙ take_front (4 * length w) s u e))

by_parity : (b : Bool) (w : List ℕ) (s : List Bool) → length w % 2 == 1 ≡ b → AreBits w s → bits_from (octets_in (cond b (w ++ 48 ∷ []) w)) (4 * length w) ≡ Some s
by_parity true w s b m =
    let odd : length w % 2 ≡ 1 = (Decides-eqb (length w % 2) 1).0 b in
    let l = length-nought w in
    let half : length (w ++ 48 ∷ []) ≡ 2 * (suc (length w) / 2) = omega arith in
    from_paired (w ++ 48 ∷ []) w s _ (pairs_of (suc (length w) / 2) (w ++ 48 ∷ []) _ half (with_nought m)) (bits_count m) (omega arith) (omega arith)
by_parity false w s b m =
    let even = not_odd (length w) b in
    let half : length w ≡ 2 * (length w / 2) = omega arith in
    from_paired w w s [] (subst (Paired w) (sym (append-nil s)) (pairs_of (length w / 2) w s half m)) (bits_count m) (omega arith) (omega arith)
  where
    not_odd : (n : ℕ) → n % 2 == 1 ≡ false → n % 2 ≡ 0
    not_odd n h = ⊎_elim (λ l. omega arith) (λ g. let e : n % 2 ≡ 1 = omega arith in let on = same_number (n % 2) 1 e in absurd (cc)) (cases_lt (n % 2) 1)

-- a default that fits is short enough to be counted
few_digits : (size : Size) (w : List ℕ) (s : List Bool) → AreBits w s → (IsMisfit (bit_string size) (default (bit_list s)) → ⊥) → length w < 4611686018427387904
few_digits size w s m fits = ⊎_elim (λ l. l) (λ g. absurd (fits (λ f. too_long f g))) (cases_lt (length w) 4611686018427387904)
  where
    same_bits : (a b : List Bool) → bit_list a ≡ bit_list b → a ≡ b
    same_bits a b e = cc

    too_long : Fits (bit_string size) (bit_list s) → 4611686018427387904 ≤ length w → ⊥
    too_long f g =
        let e = same_bits s f.0 f.1 in
        let p = and_parts _ (leb (length f.0) 18446744073709551615) f.2 in
        let l = leb-true (length f.0) 18446744073709551615 p.1 in
        let n = ap length e in
        let k = bits_count m in
        omega arith

pub digit_bits_given : (size : Size) (w : List ℕ) (s : List Bool) → AreBits w s → (IsMisfit (bit_string size) (default (bit_list s)) → ⊥) → digit_bits w ≡ Some s
unfolding digit_bits
digit_bits_given size w s m fits = rw (lt-ltb (length w) 4611686018427387904 (few_digits size w s m fits)) (by_parity (length w % 2 == 1) w s refl m)

-- Counted numbers of 64 bits.
use Rattle.std.proofs.Common.{◌≡◌, ℕ, suc, ◌+◌, ◌-◌, ◌^◌, ◌<◌, ◌≤◌, pos, List, [], ◌∷◌, ◌++◌, length, drop, take, set, refl, sym, ap, ◌∙◌, arith, append-nil}
use Rattle.std.proofs.lemmas.List.{drop-set, take_all}
use Rattle.std.specs.Int.{w64, to_be_bytes}
use Rattle.oer_units.specs.Least.{big_endian, counted, octets_needed, unsigned_octets}
use Rattle.oer_units.proofs.Lowest.{counted_few, unsigned_counted_is}
use Rattle.oer_units.proofs.Needed.{last_bytes}
use Rattle.oer_units.proofs.Numbers.{length-big_endian, length-unsigned_octets, needed_least}

pub needed_eight : (n : ℕ) → n < 2 ^ 64 → octets_needed n ≤ 8
needed_eight n h = needed_least 8 n (omega arith) (omega (arith, h))

pub needed_of : (n r : ℕ) → n < 2 ^ 64 → r ≡ length (counted (unsigned_octets n)) → r ≡ suc (octets_needed n)
needed_of n r h is =
    let size = length-unsigned_octets n in
    let few : length (unsigned_octets n) < 128 = omega (arith, size, needed_eight n h) in
    is ∙ ap length (counted_few (unsigned_octets n) few) ∙ ap suc size

-- one octet, and then the lowest ones of a number
pub headed_eight : (k n : ℕ) (bytes copied : List ℕ) → k ≤ 8 → k ≡ octets_needed n → bytes ≡ to_be_bytes w64 n → copied ≡ bytes → counted (unsigned_octets n) ≡ take (9 - (8 - k)) (drop (8 - k) (set (0 ∷ (copied ++ [])) (8 - k) k))
headed_eight k n bytes copied h needed is rest =
    let none : copied ++ [] ≡ copied = append-nil copied in
    let size : length copied ≡ 8 = ap length (rest ∙ is) in
    let inside : 8 - k < length (0 ∷ copied) = omega arith in
    let e : 8 - k + 1 ≡ suc (8 - k) = omega arith in
    let placed : drop (8 - k) (set (0 ∷ copied) (8 - k) k) ≡ k ∷ big_endian k n =
    drop-set (0 ∷ copied) (8 - k) k inside ∙ ap (λ i. k ∷ drop i (0 ∷ copied)) e ∙ ap (λ l. k ∷ drop (8 - k) l) (rest ∙ is) ∙ ap (λ l. k ∷ l) (last_bytes 8 k n h) in
    let cut = ap (λ l. take (9 - (8 - k)) (drop (8 - k) (set (0 ∷ l) (8 - k) k))) none ∙ ap (λ l. take (9 - (8 - k)) l) placed ∙ take_all (9 - (8 - k)) (k ∷ big_endian k n) (omega (arith, length-big_endian k n)) in
    sym (unsigned_counted_is (pos n) k n (omega (arith, h)) needed refl) ∙ sym cut

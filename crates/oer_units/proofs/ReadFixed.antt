-- Numbers of at most eight octets.
use Rattle.std.proofs.Common.{◌≡◌, ℕ, ◌+◌, ◌-◌, ◌*◌, ◌^◌, ◌<◌, ◌≤◌, leb, List, [], ◌∷◌, length, take, drop, get_or, Result, arith, sym, ap, subst, ◌∙◌}
use Rattle.std.specs.List.{AllByRecursion}
use Rattle.std.proofs.lemmas.List.{length-drop, length-take-le}
use Rattle.std.proofs.Math.Nat.{pow-le-pow_right, mul-le-mul_right}
use Rattle.std.proofs.Math.Seq.{take-length}
use Rattle.oer_units.specs.declared.fault.ReadFault.{ReadFault}
use Rattle.oer_units.specs.declared.width.Width.{Width}
use Rattle.oer_units.specs.declared.width.Width.TheVariants.{One, Two, Four, Eight}
use Rattle.oer_units.specs.Width.{octets_of_width}
use Rattle.oer_units.specs.Reader.{group}
use Rattle.oer_units.specs.Numbers.{unsigned, signed}
use Rattle.oer_units.specs.Fixed.{unsigned_fixed_at, signed_fixed_at}
use Rattle.oer_units.specs.ReadingSteps.{digit, size_after, twos_of, int_of}
use Rattle.oer_units.specs.Reads.{State, Reads, seen}
use Rattle.oer_units.proofs.ReadGroups.{fits_take}
use Rattle.oer_units.proofs.ReadNumbers.{digit_small, read_as, signed_is}

pub width_some : (width : Width) → 1 ≤ octets_of_width width
width_some One = omega arith
width_some Two = omega arith
width_some Four = omega arith
width_some Eight = omega arith

pub width_few : (width : Width) → octets_of_width width ≤ 8
width_few One = omega arith
width_few Two = omega arith
width_few Four = omega arith
width_few Eight = omega arith

-- what was read into a list of as many octets
pub unsigned_read : {B : Type 0} (width : Width) (m : ℕ) (s s' : State) (xs : List ℕ) (result : Result B ReadFault) → m ≡ octets_of_width width → Reads (group m) s (seen (λ _. xs) result) s' → Reads (unsigned_fixed_at width) s (seen (λ _. unsigned xs) result) s'
unfolding unsigned_fixed_at
unsigned_read width m s s' xs result is h = read_as (octets_of_width width) m unsigned s s' xs result is h

pub signed_read : {B : Type 0} (width : Width) (m : ℕ) (s s' : State) (xs : List ℕ) (result : Result B ReadFault) → m ≡ octets_of_width width → Reads (group m) s (seen (λ _. xs) result) s' → Reads (signed_fixed_at width) s (seen (λ _. signed xs) result) s'
unfolding signed_fixed_at
signed_read width m s s' xs result is h = read_as (octets_of_width width) m signed s s' xs result is h

-- ---- the number itself

-- how many octets there are after the first
rest_few : (w : List ℕ) → 1 ≤ length w → length w ≤ 8 → length (take (length w - 1) (drop 1 w)) ≤ 7
rest_few w some few =
    let e : length (drop 1 w) ≡ length w - 1 = length-drop 1 w in
    let f : length (take (length w - 1) (drop 1 w)) ≡ length w - 1 = length-take-le (length w - 1) (drop 1 w) (omega arith) in
    omega arith

pub signed_small : (w : List ℕ) (x start size : ℕ) → 1 ≤ length w → length w ≤ 8 → x < 256 → start ≡ digit (leb 128 x) x → size + 1 ≤ (start + 1) * 256 ^ length (take (length w - 1) (drop 1 w)) → size < 2 ^ 63
signed_small w x start size some few octet is room =
    let low : digit (leb 128 x) x ≤ 127 = digit_small x octet in
    let k = length (take (length w - 1) (drop 1 w)) in
    let a : (start + 1) * 256 ^ k ≤ 128 * 256 ^ k = mul-le-mul_right (256 ^ k) (omega arith) in
    let base : 0 < 256 = omega arith in
    let b : 256 ^ k ≤ 256 ^ 7 = pow-le-pow_right base (rest_few w some few) in
    omega arith

pub signed_few : (w : List ℕ) (start size : ℕ) → 1 ≤ length w → ((k : ℕ) → get_or w k 0 < 256) → start ≡ digit (leb 128 (get_or w 0 0)) (get_or w 0 0) → size ≡ size_after (leb 128 (get_or w 0 0)) start (take (length w - 1) (drop 1 w)) → size < 2 ^ 63 → int_of (twos_of (leb 128 (get_or w 0 0)) size) ≡ signed w
signed_few [] start size some fits first is less = absurd (omega arith)
signed_few (x ∷ xs) start size some fits first is less =
    let all : AllByRecursion (λ y. y < 256) (x ∷ xs) = subst (λ (l : List ℕ). AllByRecursion (λ y. y < 256) l) (take-length (x ∷ xs)) (fits_take (length (x ∷ xs)) (x ∷ xs) fits) in
    let count : length (x ∷ xs) - 1 ≡ length xs = omega arith in
    let rest : take (length (x ∷ xs) - 1) xs ≡ xs = ap (λ (n : ℕ). take n xs) count ∙ take-length xs in
    let same : size_after (leb 128 x) (digit (leb 128 x) x) xs ≡ size = sym (is ∙ ap (λ (v : ℕ). size_after (leb 128 x) v (take (length (x ∷ xs) - 1) xs)) first ∙ ap (λ (l : List ℕ). size_after (leb 128 x) (digit (leb 128 x) x) l) rest) in
    sym (signed_is (x ∷ xs) (twos_of (leb 128 x) size) some all (ap (λ (v : ℕ). twos_of (leb 128 x) v) same) (omega arith))

-- How many octets a number needs, and its lowest octets.
use Rattle.std.proofs.Common.{◌≡◌, ℕ, zero, suc, ◌+◌, ◌-◌, ◌*◌, ◌/◌, ◌%◌, ◌^◌, ◌<◌, ◌≤◌, max, inl, inr, ℤ, pos, negsuc, ◌+ℤ◌, ◌≤ℤ◌, ◌<ℤ◌, unsigned_abs, List, [], ◌∷◌, ◌++◌, length, drop, refl, sym, ap, ◌∙◌, arith, append-nil, take, set}
use Rattle.std.proofs.lemmas.Bool.{cases_lt}
use Rattle.std.proofs.lemmas.Nat.{leading_length}
use Rattle.std.proofs.lemmas.Int.{ints}
use Rattle.std.proofs.lemmas.List.{drop-set, take_all}
use Rattle.std.proofs.Math.Nat.{pow-suc, pow-zero, div-div-eq-div-mul, mul_comm}
use Rattle.std.specs.Int.{w128, leading_zeros, to_be_bytes, bytes_high_first, byte_at}
use Rattle.oer_units.specs.Least.{big_endian, octets_needed, unsigned_octets, signed_octets}
use Rattle.oer_units.proofs.Numbers.{needed_some, needed_room, needed_least, length-big_endian, length-signed_octets}

pub needed_sixteen : (n : ℕ) → n < 2 ^ 128 → octets_needed n ≤ 16
needed_sixteen n h = needed_least 16 n (omega arith) (omega arith)

pub unsigned_octets_are : (n : ℕ) → unsigned_octets n ≡ big_endian (octets_needed n) n
unfolding unsigned_octets
unsigned_octets_are n = refl

-- ---- from bits to octets

two_up : (i j : ℕ) → 2 ^ i ≤ 2 ^ (i + j)
two_up i zero = let e : i + 0 ≡ i = omega arith in omega (arith, ap (λ k. 2 ^ k) e)
two_up i (suc j) = let e : i + suc j ≡ suc (i + j) = omega arith in omega (arith, ap (λ k. 2 ^ k) e, pow-suc 2 (i + j), two_up i j)

two_mono : (i j : ℕ) → i ≤ j → 2 ^ i ≤ 2 ^ j
two_mono i j h = let e : i + (j - i) ≡ j = omega arith in omega (arith, two_up i (j - i), ap (λ k. 2 ^ k) e)

eight_bits : (k : ℕ) → 256 ^ k ≡ 2 ^ (8 * k)
eight_bits zero = omega (arith, pow-zero 256, pow-zero 2)
eight_bits (suc k) =
    let e : 8 * suc k ≡ suc (suc (suc (suc (suc (suc (suc (suc (8 * k)))))))) = omega arith in
    let p0 = pow-suc 2 (8 * k) in
    let p1 = pow-suc 2 (suc (8 * k)) in
    let p2 = pow-suc 2 (suc (suc (8 * k))) in
    let p3 = pow-suc 2 (suc (suc (suc (8 * k)))) in
    let p4 = pow-suc 2 (suc (suc (suc (suc (8 * k))))) in
    let p5 = pow-suc 2 (suc (suc (suc (suc (suc (8 * k)))))) in
    let p6 = pow-suc 2 (suc (suc (suc (suc (suc (suc (8 * k))))))) in
    let p7 = pow-suc 2 (suc (suc (suc (suc (suc (suc (suc (8 * k)))))))) in
    omega (arith, ap (λ j. 2 ^ j) e, pow-suc 256 k, eight_bits k)

-- m bits are in as many octets as the number needs
bits_octets : (n m : ℕ) → n < 2 ^ m → 2 ^ m ≤ 2 * n + 1 → max ((m + 7) / 8) 1 ≡ octets_needed n
bits_octets n m a b =
    let k : ℕ = max ((m + 7) / 8) 1 in
    let q : ℕ = octets_needed n in
    let up : 2 ^ m ≤ 2 ^ (8 * k) = two_mono m (8 * k) (omega arith) in
    let least : q ≤ k = needed_least k n (omega arith) (omega (arith, eight_bits k)) in
    elim (cases_lt (8 * q) m) [
      | inl less ↦ let more : 2 ^ suc (8 * q) ≤ 2 ^ m = two_mono (suc (8 * q)) m (omega arith) in absurd (omega (arith, needed_room n, eight_bits q, pow-suc 2 (8 * q)))
      | inr le ↦ omega (arith, needed_some n)
    ]

pub needed_is : (n r z : ℕ) → n < 2 ^ 128 → z ≡ leading_zeros w128 n → r ≡ max ((128 - z + 7) / 8) 1 → r ≡ octets_needed n
needed_is n r z h is e =
    let l = leading_length 128 n h in
    let m : ℕ = l.0 in
    let same : 128 - z ≡ m = let a = l.1 in omega arith in
    e ∙ ap (λ j. max ((j + 7) / 8) 1) same ∙ bits_octets n m l.2 l.3

-- ---- the lowest octets

byte_up : (k n : ℕ) → byte_at (suc k) n ≡ byte_at k (n / 256)
byte_up zero n = ap (λ x. n / x % 256) (pow-suc 256 0 ∙ refl)
byte_up (suc k) n = ap (λ x. n / x % 256) (pow-suc 256 (suc k) ∙ mul_comm (256 ^ suc k) 256) ∙ ap (λ x. x % 256) (sym (div-div-eq-div-mul n 256 (256 ^ suc k)))

bytes_are : (k n : ℕ) → bytes_high_first k n ≡ big_endian k n
bytes_are zero n = refl
bytes_are (suc zero) n = refl
bytes_are (suc (suc k)) n = let p = byte_up k n in let q = bytes_are (suc k) n in let r = bytes_are (suc k) (n / 256) in ap (λ x. x ∷ bytes_high_first (suc k) n) p ∙ ap (λ x. byte_at k (n / 256) ∷ x) q ∙ ap (λ x. (byte_at k (n / 256) ∷ x) ++ (n % 256 ∷ [])) (sym (bytes_are k (n / 256))) ∙ ap (λ x. x ++ (n % 256 ∷ [])) r

drop_bytes : (j k n : ℕ) → drop j (bytes_high_first (j + k) n) ≡ bytes_high_first k n
drop_bytes zero k n = let e : 0 + k ≡ k = omega arith in ap (λ j. bytes_high_first j n) e
drop_bytes (suc j) k n = let e : suc j + k ≡ suc (j + k) = omega arith in ap (λ i. drop (suc j) (bytes_high_first i n)) e ∙ drop_bytes j k n

pub last_bytes : (all k n : ℕ) → k ≤ all → drop (all - k) (bytes_high_first all n) ≡ big_endian k n
last_bytes all k n h =
    let e : all ≡ (all - k) + k = omega arith in
    ap (λ i. drop (all - k) (bytes_high_first i n)) e ∙ drop_bytes (all - k) k n ∙ bytes_are k n

-- ---- one octet, and then the lowest ones of a number

pub headed : (k n head : ℕ) (bytes copied : List ℕ) → k ≤ 16 → bytes ≡ to_be_bytes w128 n → copied ≡ bytes → take (17 - (16 - k)) (drop (16 - k) (set (0 ∷ (copied ++ [])) (16 - k) head)) ≡ head ∷ big_endian k n
headed k n head bytes copied h is rest =
    let none : copied ++ [] ≡ copied = append-nil copied in
    let size : length copied ≡ 16 = ap length (rest ∙ is) in
    let inside : 16 - k < length (0 ∷ copied) = omega arith in
    let e : 16 - k + 1 ≡ suc (16 - k) = omega arith in
    let placed : drop (16 - k) (set (0 ∷ copied) (16 - k) head) ≡ head ∷ big_endian k n = drop-set (0 ∷ copied) (16 - k) head inside ∙ ap (λ i. head ∷ drop i (0 ∷ copied)) e ∙ ap (λ l. head ∷ drop (16 - k) l) (rest ∙ is) ∙ ap (λ l. head ∷ l) (last_bytes 16 k n h) in
    ap (λ l. take (17 - (16 - k)) (drop (16 - k) (set (0 ∷ l) (16 - k) head))) none ∙ ap (λ l. take (17 - (16 - k)) l) placed ∙ take_all (17 - (16 - k)) (head ∷ big_endian k n) (omega (arith, length-big_endian k n))

-- ---- two's complement

pub size_up : (z y : ℤ) (r : ℕ) → r ≡ octets_needed (2 * unsigned_abs y) → y ≡ z → pos 0 ≤ℤ z → r ≡ length (signed_octets z)
size_up (pos m) y r is e h = is ∙ ap (λ x. octets_needed (2 * unsigned_abs x)) e ∙ sym (length-signed_octets (pos m) m (inl refl))
size_up (negsuc m) y r is e h = absurd (omega (arith, ints))

pub size_down : (z y : ℤ) (r : ℕ) → r ≡ octets_needed (2 * unsigned_abs y) → y +ℤ z ≡ negsuc 0 → z <ℤ pos 0 → r ≡ length (signed_octets z)
size_down (pos m) y r is e h = absurd (omega (arith, ints))
size_down (negsuc m) y r is e h =
    let same : y ≡ pos m = omega (arith, ints) in
    is ∙ ap (λ x. octets_needed (2 * unsigned_abs x)) same ∙ sym (length-signed_octets (negsuc m) m (inr refl))

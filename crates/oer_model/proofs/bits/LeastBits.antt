-- Bits in octets: their least forms.
use Rattle.std.proofs.Common.{◌≡◌, ℕ, zero, suc, ◌+◌, ◌*◌, ◌/◌, ◌%◌, ◌^◌, ◌<◌, ◌≤◌, Bool, true, false, eqb, List, [], ◌∷◌, ◌++◌, length, replicate, refl, sym, ap, ◌∙◌, subst, arith, length-append}
use Rattle.std.proofs.lemmas.List.{length-replicate}
use Rattle.oer_units.specs.Least.{base128_octets, object_id_octets, subidentifier_octets}
use Rattle.oer_units.specs.Octets.{IsOctets}
use Rattle.oer_units.specs.Spelling.{IsJoined, IsSubidentifier, IsObjectId}
use Rattle.oer_units.proofs.LeastDigits.{subs_octets, base128_exists}
use Rattle.oer_model.specs.Bits.{bit, bits_of, all_false, octets_for, bit_value, packed, spare_bits, padded}
use Rattle.oer_model.specs.Fits.{AreArcs, AllBelow}
use Rattle.oer_model.specs.Strict.{StrictBits, StrictPreamble}

digits_8 : (a b c d e f g h : ℕ) → a ≤ 1 → b ≤ 1 → c ≤ 1 → d ≤ 1 → e ≤ 1 → f ≤ 1 → g ≤ 1 → h ≤ 1 → (x : ℕ) → x ≡ 128 * a + 64 * b + 32 * c + 16 * d + 8 * e + 4 * f + 2 * g + h
    → ((x / 128) % 2 ≡ a) × ((x / 64) % 2 ≡ b) × ((x / 32) % 2 ≡ c) × ((x / 16) % 2 ≡ d) × ((x / 8) % 2 ≡ e) × ((x / 4) % 2 ≡ f) × ((x / 2) % 2 ≡ g) × (x % 2 ≡ h) × (x < 256)
digits_8 a b c d e f g h la lb lc ld le lf lg lh x is = (omega arith, omega arith, omega arith, omega arith, omega arith, omega arith, omega arith, omega arith, omega arith)

value_small : (a : Bool) → bit_value a ≤ 1
value_small true = omega arith
value_small false = omega arith

value_bit : (a : Bool) → eqb (bit_value a) 1 ≡ a
value_bit true = refl
value_bit false = refl

bit_from : (x k : ℕ) (a : Bool) → (x / 2 ^ k) % 2 ≡ bit_value a → bit x k ≡ a
unfolding bit
bit_from x k a e = ap (λ n. eqb n 1) e ∙ value_bit a

bits_packed : (k : ℕ) (s : List Bool) → length s ≡ 8 * k → (bits_of (packed s) ≡ s) × IsOctets (packed s)
bits_packed k [] n = (refl, tt)
bits_packed k (a ∷ []) n = absurd (omega arith)
bits_packed k (a ∷ b ∷ []) n = absurd (omega arith)
bits_packed k (a ∷ b ∷ c ∷ []) n = absurd (omega arith)
bits_packed k (a ∷ b ∷ c ∷ d ∷ []) n = absurd (omega arith)
bits_packed k (a ∷ b ∷ c ∷ d ∷ e ∷ []) n = absurd (omega arith)
bits_packed k (a ∷ b ∷ c ∷ d ∷ e ∷ f ∷ []) n = absurd (omega arith)
bits_packed k (a ∷ b ∷ c ∷ d ∷ e ∷ f ∷ g ∷ []) n = absurd (omega arith)
bits_packed zero (a ∷ b ∷ c ∷ d ∷ e ∷ f ∷ g ∷ h ∷ s) n = absurd (omega arith)
bits_packed (suc k) (a ∷ b ∷ c ∷ d ∷ e ∷ f ∷ g ∷ h ∷ s) n =
    let x : ℕ = 128 * bit_value a + 64 * bit_value b + 32 * bit_value c + 16 * bit_value d + 8 * bit_value e + 4 * bit_value f + 2 * bit_value g + bit_value h in
    let o = digits_8 (bit_value a) (bit_value b) (bit_value c) (bit_value d) (bit_value e) (bit_value f) (bit_value g) (bit_value h) (value_small a) (value_small b) (value_small c) (value_small d) (value_small e) (value_small f) (value_small g) (value_small h) x refl in
    let rest = bits_packed k s (omega arith) in
    let i7 : bit x 7 ≡ a = bit_from x 7 a o.0 in
    let i6 : bit x 6 ≡ b = bit_from x 6 b o.1 in
    let i5 : bit x 5 ≡ c = bit_from x 5 c o.2 in
    let i4 : bit x 4 ≡ d = bit_from x 4 d o.3 in
    let i3 : bit x 3 ≡ e = bit_from x 3 e o.4 in
    let i2 : bit x 2 ≡ f = bit_from x 2 f o.5 in
    let i1 : bit x 1 ≡ g = bit_from x 1 g o.6 in
    let i0 : bit x 0 ≡ h = bit_from x 0 h (let l = o.7 in omega arith) in
    let r = rest.0 in
    (cc, (o.8, rest.1))

length-packed : (k : ℕ) (s : List Bool) → length s ≡ 8 * k → length (packed s) ≡ k
length-packed k [] n = omega arith
length-packed k (a ∷ []) n = absurd (omega arith)
length-packed k (a ∷ b ∷ []) n = absurd (omega arith)
length-packed k (a ∷ b ∷ c ∷ []) n = absurd (omega arith)
length-packed k (a ∷ b ∷ c ∷ d ∷ []) n = absurd (omega arith)
length-packed k (a ∷ b ∷ c ∷ d ∷ e ∷ []) n = absurd (omega arith)
length-packed k (a ∷ b ∷ c ∷ d ∷ e ∷ f ∷ []) n = absurd (omega arith)
length-packed k (a ∷ b ∷ c ∷ d ∷ e ∷ f ∷ g ∷ []) n = absurd (omega arith)
length-packed zero (a ∷ b ∷ c ∷ d ∷ e ∷ f ∷ g ∷ h ∷ s) n = absurd (omega arith)
length-packed (suc k) (a ∷ b ∷ c ∷ d ∷ e ∷ f ∷ g ∷ h ∷ s) n = omega (arith, length-packed k s (omega arith))

zeros_false : (k : ℕ) → all_false (replicate k false) ≡ true
zeros_false zero = refl
zeros_false (suc k) = zeros_false k

whole : (s : List Bool) → length (s ++ replicate (spare_bits (length s)) false) ≡ 8 * octets_for (length s)
unfolding octets_for
whole s = omega (arith, length-append s (replicate (spare_bits (length s)) false), length-replicate (spare_bits (length s)) false)

pub length-padded : (s : List Bool) → length (padded s) ≡ octets_for (length s)
unfolding padded
length-padded s = length-packed (octets_for (length s)) (s ++ replicate (spare_bits (length s)) false) (whole s)

pub preamble_exists : (s : List Bool) → StrictPreamble s (padded s)
unfolding padded
preamble_exists s =
    let both = bits_packed (octets_for (length s)) (s ++ replicate (spare_bits (length s)) false) (whole s) in
    (both.1, (replicate (spare_bits (length s)) false, length-packed (octets_for (length s)) (s ++ replicate (spare_bits (length s)) false) (whole s), both.0, zeros_false (spare_bits (length s))))

none_spare : (n k : ℕ) → n + spare_bits n ≡ 8 * k → k ≡ 0 → spare_bits n ≡ 0
none_spare n k e z = omega arith

spare_small : (n : ℕ) → spare_bits n ≤ 7
spare_small n = omega arith

bits_are : (s : List Bool) → bits_of (padded s) ≡ s ++ replicate (spare_bits (length s)) false
unfolding padded
bits_are s = (bits_packed (octets_for (length s)) (s ++ replicate (spare_bits (length s)) false) (whole s)).0

pub bits_exist : (s : List Bool) → StrictBits s (spare_bits (length s) ∷ padded s)
bits_exist s =
    let pre = preamble_exists s in
    let small = spare_small (length s) in
    let room = whole s in
    let l = length-padded s in
    let m = length-replicate (spare_bits (length s)) false in
    let sum = length-append s (replicate (spare_bits (length s)) false) in (
      (omega arith, pre.0),
      (spare_bits (length s), padded s, replicate (spare_bits (length s)) false, refl, small, (λ z. none_spare (length s) (octets_for (length s)) (omega arith) (sym l ∙ z)), m, zeros_false (spare_bits (length s)), bits_are s),
    )

pub subs_exist : (xs : List ℕ) → AllBelow (2 ^ 128) xs → IsJoined IsSubidentifier xs (subidentifier_octets xs)
subs_exist [] a = refl
subs_exist (x ∷ xs) (l, a) = (base128_octets x, subidentifier_octets xs, refl, (base128_exists x, l), subs_exist xs a)

pub oid_exists : (arcs : List ℕ) → AreArcs arcs → IsObjectId arcs (object_id_octets arcs)
oid_exists arcs (x, y, rest, is, low, under, l, a) = (x, y, rest, is, low, under, subst (IsJoined IsSubidentifier ((40 * x + y) ∷ rest)) (ap object_id_octets (sym is)) (subs_exist ((40 * x + y) ∷ rest) (l, a)))

pub oid_octets : (arcs : List ℕ) → AreArcs arcs → IsOctets (object_id_octets arcs)
oid_octets arcs (x, y, rest, is, low, under, l, a) = subst IsOctets (ap object_id_octets (sym is)) (subs_octets ((40 * x + y) ∷ rest))

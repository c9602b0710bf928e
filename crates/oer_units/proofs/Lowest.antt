-- The lowest octets of numbers, and least forms made of them.
use Rattle.std.proofs.Common.{◌≡◌, ℕ, zero, suc, ◌+◌, ◌-◌, ◌*◌, ◌/◌, ◌%◌, ◌^◌, ◌<◌, ◌≤◌, cond, ℤ, pos, negsuc, ◌≤ℤ◌, ◌<ℤ◌, unsigned_abs, FitsSigned, of_z, to_z, Option, Result, List, [], ◌∷◌, ◌++◌, length, drop, take, refl, sym, ap, ◌∙◌, subst, arith, pow-add}
use Rattle.std.proofs.lemmas.Bool.{lt-ltb, le-ltb}
use Rattle.std.proofs.lemmas.Int.{ints}
use Rattle.std.proofs.lemmas.List.{take_all}
use Rattle.std.proofs.Math.Nat.{pow-suc, pow-zero, mul_comm, mul_assoc}
use Rattle.std.specs.Int.{w64, w128, to_be_bytes}
use Rattle.oer_units.specs.declared.fault.SinkFault.{SinkFault}
use Rattle.oer_units.specs.declared.width.Width.{Width}
use Rattle.oer_units.specs.declared.width.Width.TheVariants.{One, Two, Four, Eight}
use Rattle.oer_units.specs.Least.{big_endian, octets_needed, unsigned_octets, signed_octets, counted, fixed_signed_octets, enumerated_octets}
use Rattle.oer_units.specs.Width.{octets_of_width, FitsSignedWidth}
use Rattle.oer_units.specs.Writing.{Puts}
use Rattle.oer_units.proofs.Numbers.{needed_room, length-big_endian, length-unsigned_octets, length_octets_below}
use Rattle.oer_units.proofs.Needed.{needed_sixteen, unsigned_octets_are, last_bytes}

pub puts_same : {A : Type 0} {xs ys : List ℕ} {old new : Option (List ℕ)} {failed failed' : ℕ} {result : Result A SinkFault} → xs ≡ ys → Puts xs old failed result new failed' → Puts ys old failed result new failed'
puts_same {A} {xs} {ys} {old} {new} {failed} {failed'} {result} e p = subst (λ l. Puts l old failed result new failed') e p

-- a number, as a variable holds it
pub held_64 : (z : ℤ) → FitsSigned w64 z → to_z w64 (of_z w64 z) ≡ z
held_64 z h = omega (arith, ints)

pub held_128 : (z : ℤ) → FitsSigned w128 z → to_z w128 (of_z w128 z) ≡ z
held_128 z h = omega (arith, ints)

pub held_wide : (z : ℤ) → FitsSigned w64 z → to_z w128 (of_z w128 (to_z w64 (of_z w64 z))) ≡ z
held_wide z h = omega (arith, ints)

pub wide_bits : (z : ℤ) → FitsSigned w64 z → FitsSigned w128 z
wide_bits z h = omega (arith, ints)

-- what is added above makes no difference
pub low_above : (k m j : ℕ) → big_endian k (m + 256 ^ k * j) ≡ big_endian k m
low_above zero m j = refl
low_above (suc k) m j =
    let t : ℕ = 256 ^ k * j in
    let up : 256 ^ suc k * j ≡ t * 256 = ap (λ x. x * j) (pow-suc 256 k) ∙ mul_assoc (256 ^ k) 256 j ∙ ap (λ x. 256 ^ k * x) (mul_comm 256 j) ∙ sym (mul_assoc (256 ^ k) j 256) in
    let high : (m + 256 ^ suc k * j) / 256 ≡ m / 256 + t = omega arith in
    let low : (m + 256 ^ suc k * j) % 256 ≡ m % 256 = omega arith in
    ap (λ x. big_endian k x ++ ((m + 256 ^ suc k * j) % 256 ∷ [])) high ∙ ap (λ x. big_endian k (m / 256 + t) ++ (x ∷ [])) low ∙ ap (λ l. l ++ (m % 256 ∷ [])) (low_above k (m / 256) j)

power_some : (k : ℕ) → 1 ≤ 256 ^ k
power_some zero = omega (arith, pow-zero 256)
power_some (suc k) = omega (arith, pow-suc 256 k, power_some k)

less_more : (p q s : ℕ) → 1 ≤ q → s ≤ p → p * q - s ≡ (p - s) + p * (q - 1)
less_more p zero s some h = absurd (omega arith)
less_more p (suc q) s some h = let e : p * suc q ≡ p + p * q = omega arith in let f : suc q - 1 ≡ q = omega arith in rw (e, f) (omega arith)

-- a negative number, in more octets and in fewer
fewer : (all k m : ℕ) → k ≤ all → suc m ≤ 256 ^ k → big_endian k (256 ^ all - suc m) ≡ big_endian k (256 ^ k - suc m)
fewer all k m le h =
    let parts : all ≡ k + (all - k) = omega arith in
    let power : 256 ^ all ≡ 256 ^ k * 256 ^ (all - k) = ap (λ i. 256 ^ i) parts ∙ pow-add 256 k (all - k) in
    ap (λ x. big_endian k (x - suc m)) power
    ∙ ap (λ x. big_endian k x) (less_more (256 ^ k) (256 ^ (all - k)) (suc m) (power_some (all - k)) h)
    ∙ low_above k (256 ^ k - suc m) (256 ^ (all - k) - 1)

pub signed_low : (z : ℤ) → FitsSigned w128 z → big_endian (length (signed_octets z)) (of_z w128 z) ≡ signed_octets z
unfolding signed_octets
signed_low (pos m) h = ap (λ k. big_endian k m) (length-big_endian (octets_needed (2 * m)) m)
signed_low (negsuc m) h =
    let k : ℕ = octets_needed (2 * m) in
    let room : suc m ≤ 256 ^ k = omega (arith, needed_room (2 * m), power_some k) in
    let le : k ≤ 16 = needed_sixteen (2 * m) (omega (arith, ints)) in
    ap (λ i. big_endian i (2 ^ 128 - suc m)) (length-big_endian k (256 ^ k - suc m)) ∙ fewer 16 k m le room

pub counted_few : (w : List ℕ) → length w < 128 → counted w ≡ length w ∷ w
counted_few w h = ap (λ l. l ++ w) (length_octets_below (length w) h)

-- a count, and the lowest octets

pub signed_counted_is : (z : ℤ) (k n : ℕ) → FitsSigned w128 z → k ≤ 16 → k ≡ length (signed_octets z) → n ≡ of_z w128 z → k ∷ big_endian k n ≡ counted (signed_octets z)
signed_counted_is z k n fits few is at = rw (is, at, signed_low z fits) (sym (counted_few (signed_octets z) (omega arith)))

pub unsigned_counted_is : (z : ℤ) (k n : ℕ) → k ≤ 16 → k ≡ octets_needed n → n ≡ unsigned_abs z → k ∷ big_endian k n ≡ counted (unsigned_octets (unsigned_abs z))
unsigned_counted_is z k n few is at = rw (← at, is) (sym (counted_few (unsigned_octets n) (omega (arith, length-unsigned_octets n)) ∙ ap (λ l. l ∷ unsigned_octets n) (length-unsigned_octets n) ∙ ap (λ l. octets_needed n ∷ l) (unsigned_octets_are n)))

pub length-counted : (w : List ℕ) (k : ℕ) → k ≤ 16 → k ≡ length w → 1 + k ≡ length (counted w)
length-counted w k few is = omega (arith, ap length (counted_few w (omega arith)))

pub enumerated_short : (z : ℤ) → pos 0 ≤ℤ z → z <ℤ pos 128 → enumerated_octets z ≡ unsigned_abs z ∷ []
unfolding enumerated_octets
enumerated_short (pos n) a b = ap (λ x. cond x (n ∷ []) ((128 + length (signed_octets (pos n))) ∷ signed_octets (pos n))) (lt-ltb n 128 (omega (arith, ints)))
enumerated_short (negsuc n) a b = absurd (omega (arith, ints))

pub enumerated_far : (z : ℤ) → pos 128 ≤ℤ z → enumerated_octets z ≡ (128 + length (signed_octets z)) ∷ signed_octets z
unfolding enumerated_octets
enumerated_far (pos n) a = ap (λ x. cond x (n ∷ []) ((128 + length (signed_octets (pos n))) ∷ signed_octets (pos n))) (le-ltb n 128 (omega (arith, ints)))
enumerated_far (negsuc n) a = absurd (omega (arith, ints))

pub enumerated_below : (z : ℤ) → z <ℤ pos 0 → enumerated_octets z ≡ (128 + length (signed_octets z)) ∷ signed_octets z
unfolding enumerated_octets
enumerated_below (pos n) a = absurd (omega (arith, ints))
enumerated_below (negsuc n) a = refl

-- a number in the octets of a width

fixed_up : (all k n : ℕ) → k ≤ all → big_endian k n ≡ fixed_signed_octets k (pos n)
fixed_up all k n h = refl

fixed_down : (k m : ℕ) → k ≤ 8 → suc m ≤ 256 ^ k → big_endian k (2 ^ 64 - suc m) ≡ fixed_signed_octets k (negsuc m)
fixed_down k m le h = fewer 8 k m le h

pub fixed_is : (width : Width) (z : ℤ) → FitsSignedWidth width z → big_endian (octets_of_width width) (of_z w64 z) ≡ fixed_signed_octets (octets_of_width width) z
fixed_is width (pos n) h = refl
fixed_is One (negsuc m) h = let low = h.0 in fixed_down 1 m (omega arith) (omega (arith, ints))
fixed_is Two (negsuc m) h = let low = h.0 in fixed_down 2 m (omega arith) (omega (arith, ints))
fixed_is Four (negsuc m) h = let low = h.0 in fixed_down 4 m (omega arith) (omega (arith, ints))
fixed_is Eight (negsuc m) h = let low = h.0 in fixed_down 8 m (omega arith) (omega (arith, ints))

width_eight : (width : Width) → octets_of_width width ≤ 8
width_eight One = omega arith
width_eight Two = omega arith
width_eight Four = omega arith
width_eight Eight = omega arith

-- the last of eight octets
pub last_of_eight : (width : Width) (n k : ℕ) (bytes : List ℕ) → bytes ≡ to_be_bytes w64 n → k ≡ octets_of_width width → take (8 - (8 - k)) (drop (8 - k) bytes) ≡ big_endian (octets_of_width width) n
last_of_eight width n k bytes is at =
    let le = width_eight width in
    let same : drop (8 - k) bytes ≡ big_endian k n = ap (λ l. drop (8 - k) l) is ∙ last_bytes 8 k n (omega arith) in
    ap (λ l. take (8 - (8 - k)) l) same ∙ take_all (8 - (8 - k)) (big_endian k n) (omega (arith, length-big_endian k n)) ∙ ap (λ i. big_endian i n) at

pub abs_bits : (z : ℤ) → FitsSigned w128 z → pos 0 ≤ℤ z → of_z w128 (to_z w128 (of_z w128 z)) ≡ unsigned_abs z
abs_bits (pos n) h a = ap (of_z w128) (held_128 (pos n) h)
abs_bits (negsuc n) h a = absurd (omega (arith, ints))

pub long_is : (z : ℤ) (k n : ℕ) → FitsSigned w128 z → k ≡ length (signed_octets z) → n ≡ of_z w128 z → enumerated_octets z ≡ (128 + length (signed_octets z)) ∷ signed_octets z → (128 + k) ∷ big_endian k n ≡ enumerated_octets z
long_is z k n fits is at e = rw (is, at, signed_low z fits) (sym e)

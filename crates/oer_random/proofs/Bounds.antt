-- Numbers and sizes that are drawn are within their bounds.
use Rattle.std.proofs.Common.{◌≡◌, ℕ, zero, suc, ◌+◌, ◌*◌, ◌%◌, ◌<◌, ◌≤◌, ◌^◌, List, [], ◌∷◌, length, map, get_or, Bool, true, false, ◌&&◌, leb, min, if◌then◌else◌}
use Rattle.std.proofs.Common.{ℤ, pos, negsuc, int_le, FitsSigned, Option, Some, None, refl, sym, ap, ◌∙◌, arith}
use Rattle.std.specs.Int.{saturate_signed, w64, w128}
use Rattle.std.proofs.lemmas.Bool.{le-leb, leb-true}
use Rattle.std.proofs.lemmas.Int.{ints}
use Rattle.std.proofs.lemmas.Nat.{mod-mul-add, mod_below}
use Rattle.oer_model.specs.AsnType.{NamedNumber, integer}
use Rattle.oer_model.specs.Constraints.{above, at_most, below, has_number, in_range, size_fits}
use Rattle.oer_model.specs.WellFormed.{HasCrossedBounds, IsCrossed}
use Rattle.oer_model.specs.Widths.{HasBoundWidth, HaveItemWidths}
use Rattle.oer_model.specs.declared.size.Size.{Size}
use Rattle.oer_model.proofs.fitting.Ranges.{is_128_bits}
use Rattle.oer_model.proofs.fitting.Tests.{and_true, or_right}
use Rattle.oer_skeleton.specs.Skeleton.{lowered}
use Rattle.oer_skeleton.proofs.Numbers.{either_fits, first_is_one, high_allows, in_order, le_self, low_fits, lowered_fits}
use Rattle.oer_random.specs.Drawn.{elements}
use Rattle.oer_random.specs.Leaves.{count_in, item_number, lifted, number, spread}

-- ---- numbers

from_below : (l z : ℤ) (b : Bool) → int_le l z ≡ b → int_le l (if b then z else l) ≡ true
from_below l z true e = e
from_below l z false e = le_self l

from_above : (h z : ℤ) (b : Bool) → int_le z h ≡ b → int_le (if b then z else h) h ≡ true
from_above h z true e = e
from_above h z false e = le_self h

clamped : (l h z : ℤ) → int_le l h ≡ true → (b c : Bool) → int_le l z ≡ b → int_le (if b then z else l) h ≡ c
    → (int_le l (if c then (if b then z else l) else h) && int_le (if c then (if b then z else l) else h) h) ≡ true
clamped l h z o true true e f = and_true (int_le l z) (int_le z h) e f
clamped l h z o false true e f = and_true (int_le l l) (int_le l h) (le_self l) f
clamped l h z o b false e f = and_true (int_le l h) (int_le h h) o (le_self h)

is_between : (low high : Option ℤ) (z : ℤ) → (HasCrossedBounds (integer low high) → ⊥) → (above low (lowered high (lifted low z)) && below high (lowered high (lifted low z))) ≡ true
is_between None None z free = refl
is_between None (Some h) z free = from_above h z (int_le z h) refl
is_between (Some l) None z free = and_true (int_le l (lifted (Some l) z)) true (from_below l z (int_le l z) refl) refl
is_between (Some l) (Some h) z free = clamped l h z (in_order l h free) (int_le l z) (int_le (lifted (Some l) z) h) refl refl

saturated : (z : ℤ) → FitsSigned w128 (saturate_signed w128 z)
saturated (pos n) = grind (arith, ints)
saturated (negsuc n) = grind (arith, ints)

lifted_fits : (low : Option ℤ) (z : ℤ) → HasBoundWidth low → FitsSigned w128 z → FitsSigned w128 (lifted low z)
lifted_fits None z w f = f
lifted_fits (Some l) z w f = either_fits (int_le l z) z l f w

any_fits : (low high : Option ℤ) (z : ℤ) → (HasCrossedBounds (integer low high) → ⊥) → HasBoundWidth low → HasBoundWidth high → FitsSigned w128 z
    → in_range low high (lowered high (lifted low z)) ≡ true
any_fits low high z free v w f =
    sym (is_128_bits low high (lowered high (lifted low z)) (lowered_fits high (lifted low z) w (lifted_fits low z v f))) ∙ is_between low high z free

pub number_fits : (low high : Option ℤ) (seed : ℕ) → (HasCrossedBounds (integer low high) → ⊥) → HasBoundWidth low → HasBoundWidth high
    → in_range low high (number low high seed) ≡ true
number_fits low high seed free v w = any_fits low high _ free v w (saturated _)

-- ---- items

is_listed : (xs : List NamedNumber) (i : ℕ) (d : ℤ) → i < length xs → has_number xs (get_or (map (λ x. x.number) xs) i d) ≡ true
is_listed [] i d l = absurd (omega arith)
is_listed (x ∷ xs) zero d l = first_is_one x xs
is_listed (x ∷ xs) (suc i) d l = or_right _ (has_number xs (get_or (map (λ x. x.number) xs) i d)) (is_listed xs i d (omega arith))

pub item_listed : (x : NamedNumber) (xs : List NamedNumber) (seed : ℕ) → has_number (x ∷ xs) (item_number (x ∷ xs) seed) ≡ true
item_listed x xs seed = let l = mod_below seed (suc (length xs)) (omega arith) in is_listed (x ∷ xs) (seed % length (x ∷ xs)) (pos 0) l

width_at : (xs : List NamedNumber) (i : ℕ) (d : ℤ) → i < length xs → HaveItemWidths xs → FitsSigned w64 (get_or (map (λ x. x.number) xs) i d)
width_at [] i d l w = absurd (omega arith)
width_at (x ∷ xs) zero d l w = w.0
width_at (x ∷ xs) (suc i) d l w = width_at xs i d (omega arith) w.1

pub item_width : (x : NamedNumber) (xs : List NamedNumber) (seed : ℕ) → HaveItemWidths (x ∷ xs) → FitsSigned w64 (item_number (x ∷ xs) seed)
item_width x xs seed w = let l = mod_below seed (suc (length xs)) (omega arith) in width_at (x ∷ xs) (seed % length (x ∷ xs)) (pos 0) l w

-- ---- sizes

not_too_many : (high : Option ℕ) (low n more : ℕ) → at_most high low ≡ true → n ≤ spread high low more → at_most high (min (low + n) 18446744073709551615) ≡ true
not_too_many None low n more e l = refl
not_too_many (Some h) low n more e l = let k = leb-true low h e in le-leb (min (low + n) 18446744073709551615) h (omega (arith, k, l))

some_fit : (s : Size) (n more : ℕ) → (IsCrossed s → ⊥) → s.low < 2 ^ 64 → n ≤ spread s.high s.low more → size_fits s (min (s.low + n) 18446744073709551615) ≡ true
some_fit s n more free w l =
    let k = min (s.low + n) 18446744073709551615 in
    and_true (leb s.low k && at_most s.high k) (leb k 18446744073709551615)
    (and_true (leb s.low k) (at_most s.high k) (le-leb s.low k (omega (arith, w))) (not_too_many s.high s.low n more (high_allows s.high s.low free) l))
    (le-leb k 18446744073709551615 (omega arith))

pub count_fits : (s : Size) (more seed : ℕ) → (IsCrossed s → ⊥) → s.low < 2 ^ 64 → size_fits s (count_in s more seed) ≡ true
count_fits s more seed free w =
    let m = mod_below seed (spread s.high s.low more + 1) (omega arith) in some_fit s (seed % (spread s.high s.low more + 1)) more free w (omega (arith, m))

pub elements_fit : (room seed : ℕ) (legal : Bool) (s : Size) → (IsCrossed s → ⊥) → s.low < 2 ^ 64 → size_fits s (elements room legal s seed) ≡ true
elements_fit room seed true s free w = count_fits s room seed free w
elements_fit room seed false s free w = low_fits s free w

-- ---- what is within both bounds stays

pub kept_below : (n m : ℕ) → n ≤ m → n ≡ n % (m + 1)
kept_below n m l = let e : 0 * (m + 1) + n ≡ n = omega arith in sym (ap (λ k. k % (m + 1)) (sym e) ∙ mod-mul-add 0 (m + 1) n (omega (arith, l)))

-- Numbers and sizes of skeletons are within their bounds.
use Rattle.std.proofs.Common.{◌≡◌, ℕ, ◌<◌, ◌^◌, List, ◌∷◌, Bool, true, false, ◌&&◌, ◌||◌, leb, max, if◌then◌else◌}
use Rattle.std.proofs.Common.{ℤ, pos, negsuc, ◌<ℤ◌, int_le, FitsSigned, Option, Some, None, refl, sym, ap, ◌∙◌, arith}
use Rattle.std.specs.Int.{w128}
use Rattle.std.proofs.lemmas.Int.{ints}
use Rattle.std.proofs.lemmas.Bool.{le-leb, leb-true, leb-false}
use Rattle.oer_model.specs.AsnType.{NamedNumber, integer}
use Rattle.oer_model.specs.Constraints.{above, at_most, below, has_number, in_range, size_fits}
use Rattle.oer_model.specs.WellFormed.{HasCrossedBounds, IsBelow, IsCrossed}
use Rattle.oer_model.specs.Widths.{HasBoundWidth}
use Rattle.oer_model.specs.declared.size.Size.{Size}
use Rattle.oer_model.proofs.fitting.Ranges.{is_128_bits}
use Rattle.oer_model.proofs.fitting.Tests.{and_true, both}
use Rattle.oer_skeleton.specs.Skeleton.{elements, lowered, nearest, raised}
use Rattle.oer_skeleton.specs.declared.parts.Parts.{Parts}
use Rattle.oer_skeleton.specs.declared.parts.Parts.TheVariants.{Needed, All}

-- ---- numbers

pub le_self : (z : ℤ) → int_le z z ≡ true
le_self (pos n) = le-leb n n (omega arith)
le_self (negsuc n) = le-leb n n (omega arith)

less : (a b : ℤ) → int_le a b ≡ false → b <ℤ a
less (pos m) (pos n) e = let k = leb-false m n e in omega (arith, ints)
less (pos m) (negsuc n) e = omega (arith, ints)
less (negsuc m) (pos n) e = absurd (cc)
less (negsuc m) (negsuc n) e = let k = leb-false n m e in omega (arith, ints)

pub in_order : (low high : ℤ) → (high <ℤ low → ⊥) → int_le low high ≡ true
in_order low high not = by (int_le low high) refl
  where
    by : (b : Bool) → int_le low high ≡ b → int_le low high ≡ true
    by true e = e
    by false e = absurd (not (less low high e))

clamped : (l h : ℤ) → int_le l h ≡ true → (b c : Bool) → int_le l (pos 0) ≡ b → int_le (if b then pos 0 else l) h ≡ c
    → (int_le l (if c then (if b then pos 0 else l) else h) && int_le (if c then (if b then pos 0 else l) else h) h) ≡ true
clamped l h o true true e f = and_true (int_le l (pos 0)) (int_le (pos 0) h) e f
clamped l h o false true e f = and_true (int_le l l) (int_le l h) (le_self l) f
clamped l h o b false e f = and_true (int_le l h) (int_le h h) o (le_self h)

from_below : (l : ℤ) (b : Bool) → int_le l (pos 0) ≡ b → int_le l (if b then pos 0 else l) ≡ true
from_below l true e = e
from_below l false e = le_self l

from_above : (h : ℤ) (b : Bool) → int_le (pos 0) h ≡ b → int_le (if b then pos 0 else h) h ≡ true
from_above h true e = e
from_above h false e = le_self h

is_between : (low high : Option ℤ) → (HasCrossedBounds (integer low high) → ⊥) → (above low (nearest low high) && below high (nearest low high)) ≡ true
is_between None None free = refl
is_between None (Some h) free = from_above h (int_le (pos 0) h) refl
is_between (Some l) None free = and_true (int_le l (raised (Some l))) true (from_below l (int_le l (pos 0)) refl) refl
is_between (Some l) (Some h) free = clamped l h (in_order l h free) (int_le l (pos 0)) (int_le (raised (Some l)) h) refl refl

zero_fits : FitsSigned w128 (pos 0)
zero_fits = omega (arith, ints)

pub either_fits : (b : Bool) (x y : ℤ) → FitsSigned w128 x → FitsSigned w128 y → FitsSigned w128 (if b then x else y)
either_fits true x y f g = f
either_fits false x y f g = g

raised_fits : (low : Option ℤ) → HasBoundWidth low → FitsSigned w128 (raised low)
raised_fits None w = zero_fits
raised_fits (Some l) w = either_fits (int_le l (pos 0)) (pos 0) l zero_fits w

pub lowered_fits : (high : Option ℤ) (z : ℤ) → HasBoundWidth high → FitsSigned w128 z → FitsSigned w128 (lowered high z)
lowered_fits None z w f = f
lowered_fits (Some h) z w f = either_fits (int_le z h) z h f w

pub nearest_fits : (low high : Option ℤ) → (HasCrossedBounds (integer low high) → ⊥) → HasBoundWidth low → HasBoundWidth high
    → in_range low high (nearest low high) ≡ true
nearest_fits low high free v w = sym (is_128_bits low high (nearest low high) (lowered_fits high (raised low) w (raised_fits low v))) ∙ is_between low high free

pub first_is_one : (x : NamedNumber) (xs : List NamedNumber) → has_number (x ∷ xs) x.number ≡ true
first_is_one x xs = ap (λ b. b || has_number xs x.number) (and_true (int_le x.number x.number) (int_le x.number x.number) (le_self x.number) (le_self x.number))

-- ---- sizes

pub high_allows : (high : Option ℕ) (low : ℕ) → (IsBelow high low → ⊥) → at_most high low ≡ true
high_allows None low free = refl
high_allows (Some h) low free = by (leb low h) refl
  where
    by : (b : Bool) → leb low h ≡ b → leb low h ≡ true
    by true e = e
    by false e = absurd (free (leb-false low h e))

pub low_fits : (s : Size) → (IsCrossed s → ⊥) → s.low < 2 ^ 64 → size_fits s s.low ≡ true
low_fits s free w =
    and_true (leb s.low s.low && at_most s.high s.low) (leb s.low 18446744073709551615)
    (and_true (leb s.low s.low) (at_most s.high s.low) (le-leb s.low s.low (omega arith)) (high_allows s.high s.low free))
    (le-leb s.low 18446744073709551615 (omega arith))

one_more : (high : Option ℕ) (low : ℕ) → at_most high low ≡ true → at_most high 1 ≡ true → at_most high (max low 1) ≡ true
one_more None low e f = refl
one_more (Some h) low e f = let k = leb-true low h e in let l = leb-true 1 h f in le-leb (max low 1) h (omega arith)

most_fits : (s : Size) → (IsCrossed s → ⊥) → s.low < 2 ^ 64 → at_most s.high 1 ≡ true → size_fits s (max s.low 1) ≡ true
most_fits s free w e =
    and_true (leb s.low (max s.low 1) && at_most s.high (max s.low 1)) (leb (max s.low 1) 18446744073709551615)
    (and_true (leb s.low (max s.low 1)) (at_most s.high (max s.low 1)) (le-leb s.low (max s.low 1) (omega arith))
    (one_more s.high s.low (high_allows s.high s.low free) e))
    (le-leb (max s.low 1) 18446744073709551615 (omega arith))

pub elements_fit : (parts : Parts) (legal : Bool) (s : Size) → (IsCrossed s → ⊥) → s.low < 2 ^ 64 → size_fits s (elements parts legal s) ≡ true
elements_fit Needed legal s free w = low_fits s free w
elements_fit All legal s free w = by (legal && at_most s.high 1) refl
  where
    by : (b : Bool) → (legal && at_most s.high 1) ≡ b → size_fits s (if b then max s.low 1 else s.low) ≡ true
    by true e = most_fits s free w (both legal (at_most s.high 1) e).1
    by false e = low_fits s free w

-- What the numbers of the program keep.
use Rattle.std.proofs.Common.{◌≡◌, ℕ, suc, ◌<◌, ◌≤◌, ◌^◌, List, [], ◌∷◌, length, get_or, Bool, true, false, ◌&&◌, ltb, ℤ, pos, negsuc, int_le, FitsSigned, Option, refl, sym, ◌∙◌, arith}
use Rattle.std.specs.Int.{w64, w128}
use Rattle.std.proofs.lemmas.Int.{ints}
use Rattle.std.proofs.lemmas.Bool.{le-leb, lt-ltb}
use Rattle.oer_units.specs.Reading.{is_int64}
use Rattle.oer_model.specs.Constraints.{above, below, in_range}
use Rattle.oer_model.specs.FitTest.{all_below, first_arcs, arcs_fit}
use Rattle.oer_model.proofs.fitting.Tests.{and_true}

low_128 : (z : ℤ) → FitsSigned w128 z → int_le (negsuc 170141183460469231731687303715884105727) z ≡ true
low_128 (pos n) f = refl
low_128 (negsuc n) f = le-leb n 170141183460469231731687303715884105727 (omega (arith, ints))

high_128 : (z : ℤ) → FitsSigned w128 z → int_le z (pos 170141183460469231731687303715884105727) ≡ true
high_128 (pos n) f = le-leb n 170141183460469231731687303715884105727 (omega (arith, ints))
high_128 (negsuc n) f = refl

low_64 : (z : ℤ) → FitsSigned w64 z → int_le (negsuc 9223372036854775807) z ≡ true
low_64 (pos n) f = refl
low_64 (negsuc n) f = le-leb n 9223372036854775807 (omega (arith, ints))

high_64 : (z : ℤ) → FitsSigned w64 z → int_le z (pos 9223372036854775807) ≡ true
high_64 (pos n) f = le-leb n 9223372036854775807 (omega (arith, ints))
high_64 (negsuc n) f = refl

and_same : (a b x y : Bool) → a ≡ true → b ≡ true → (x && y) ≡ (a && b && x && y)
and_same true true x y h k = refl
and_same true false x y h k = cc
and_same false b x y h k = cc

pub is_128_bits : (low high : Option ℤ) (z : ℤ) → FitsSigned w128 z → (above low z && below high z) ≡ in_range low high z
unfolding in_range
is_128_bits low high z f = and_same (int_le (negsuc 170141183460469231731687303715884105727) z) (int_le z (pos 170141183460469231731687303715884105727)) (above low z) (below high z) (low_128 z f) (high_128 z f)

pub is_64_bits : (z : ℤ) → FitsSigned w64 z → is_int64 z ≡ true
unfolding is_int64
is_64_bits z f = and_true (int_le (negsuc 9223372036854775807) z) (int_le z (pos 9223372036854775807)) (low_64 z f) (high_64 z f)

below_128 : (xs : List ℕ) → ((k : ℕ) → get_or xs k 0 < 2 ^ 128) → all_below (2 ^ 128) xs ≡ true
below_128 [] h = refl
below_128 (x ∷ xs) h = and_true (ltb x (2 ^ 128)) (all_below (2 ^ 128) xs) (lt-ltb x (2 ^ 128) (h 0)) (below_128 xs (λ k. h (suc k)))

and_with : (a b : Bool) → b ≡ true → a ≡ (a && b)
and_with true b h = sym h
and_with false b h = refl

pub arcs_from : (xs : List ℕ) (b : Bool) → 2 ≤ length xs → ((k : ℕ) → get_or xs k 0 < 2 ^ 128) → b ≡ first_arcs (get_or xs 0 0) (get_or xs 1 0) → b ≡ arcs_fit xs
arcs_from [] b n h e = absurd (omega arith)
arcs_from (x ∷ []) b n h e = absurd (omega arith)
arcs_from (x ∷ y ∷ xs) b n h e = e ∙ and_with (first_arcs x y) (all_below (2 ^ 128) xs) (below_128 xs (λ k. h (suc (suc k))))

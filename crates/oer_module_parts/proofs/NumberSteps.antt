-- Steps of the functions on numbers.
use Rattle.std.proofs.Common.{◌≡◌, ℕ, zero, suc, ◌+◌, ◌-◌, ◌^◌, ◌<◌, ◌≤◌, ℤ, pos, negsuc, ◌+ℤ◌, ◌<ℤ◌, ◌≤ℤ◌, List, length, Bool, true, false, Option, Some, None}
use Rattle.std.proofs.Common.{refl, sym, ap, ◌∙◌, subst, arith, FitsSigned, sub-one, add-one, append_assoc, ap₂, drop-cons, to_z, of_z, [], ◌∷◌, ◌++◌, drop, get_or}
use Rattle.std.specs.Prelude.{int_lt, int_le, if◌then◌else◌}
use Rattle.std.specs.Int.{w128}
use Rattle.std.specs.Option.{SomeIff}
use Rattle.std.proofs.lemmas.Int.{ints, to_z-of_z, by_lt_z}
use Rattle.std.proofs.lemmas.Bool.{lt-ltb}
use Rattle.oer_module_parts.specs.Numbering.{is_among, free_within, first_free, least_after, representable, root_numbers}

-- ---- numbers that have 128 bits

below_limit : (n : ℤ) → FitsSigned w128 n → int_lt n (pos (2 ^ 127)) ≡ true
below_limit (pos a) fits = lt-ltb a (2 ^ 127) fits.sfits
below_limit (negsuc a) fits = refl

pub representable_is : (n : ℤ) → FitsSigned w128 n → representable n ≡ Some n
unfolding representable
representable_is n fits = rw (below_limit n fits) refl

pub representable_none : (n : ℤ) → pos (2 ^ 127) ≤ℤ n → representable n ≡ None
unfolding representable
representable_none n large = let out : int_lt n (pos (2 ^ 127)) ≡ false = grind (arith, ints) in rw out refl

-- what has 128 bits is the number itself
pub representable_same : (n m : ℤ) → Some m ≡ representable n → m ≡ n
unfolding representable
representable_same n m h =
    let by : (b : Bool) → Some m ≡ (if b then Some n else None) → m ≡ n = λ b. elim b as (λ b. Some m ≡ (if b then Some n else None) → m ≡ n) [ true ↦ λ e. cc | false ↦ λ e. absurd (cc) ] in
    by (int_lt n (pos (2 ^ 127))) h

pub too_large : (n : ℤ) → None ≡ representable n → pos (2 ^ 127) ≤ℤ n
unfolding representable
too_large n h =
    let by : (b : Bool) → int_lt n (pos (2 ^ 127)) ≡ b → None ≡ (if b then Some n else None) → pos (2 ^ 127) ≤ℤ n =
    λ b. elim b as (λ b. int_lt n (pos (2 ^ 127)) ≡ b → None ≡ (if b then Some n else None) → pos (2 ^ 127) ≤ℤ n) [ true ↦ λ e f. absurd (cc) | false ↦ λ e f. grind (arith, ints) ] in
    by (int_lt n (pos (2 ^ 127))) refl h

-- the number behind one of 128 bits has as many, or more
pub next_fits : (n : ℤ) → FitsSigned w128 n → (n +ℤ pos 1) <ℤ pos (2 ^ 127) → FitsSigned w128 (n +ℤ pos 1)
next_fits (pos a) fits less = record { sfits = omega (arith, ints) }
next_fits (negsuc zero) fits less = record { sfits = omega arith }
next_fits (negsuc (suc a)) fits less =
    let is : negsuc a ≡ negsuc (suc a) +ℤ pos 1 = omega (arith, ints) in
    let few = fits.sfits in
    subst (λ z. FitsSigned w128 z) is (record { sfits = omega arith })

pub next_too_large : (n : ℤ) → FitsSigned w128 n → (FitsSigned w128 (n +ℤ pos 1) → ⊥) → pos (2 ^ 127) ≤ℤ (n +ℤ pos 1)
next_too_large n fits large = by_lt_z (n +ℤ pos 1) (pos (2 ^ 127)) (λ less. absurd (large (next_fits n fits less))) (λ over. over)

-- the number behind one from 0 on
pub checked_next : (n : ℤ) (r : Option ℤ) → FitsSigned w128 n → int_le (pos 0) n ≡ true → SomeIff r (FitsSigned w128 (n +ℤ pos 1)) (n +ℤ pos 1) → r ≡ representable (least_after (Some n))
checked_next n r fits some h = let from : int_lt n (pos 0) ≡ false = grind (arith, ints) in rw from (checked n r fits h)
  where
    checked : (n : ℤ) (r : Option ℤ) → FitsSigned w128 n → SomeIff r (FitsSigned w128 (n +ℤ pos 1)) (n +ℤ pos 1) → r ≡ representable (n +ℤ pos 1)
    checked n (Some m) fits h = ap Some h.1 ∙ sym (representable_is (n +ℤ pos 1) h.0)
    checked n None fits h = sym (representable_none (n +ℤ pos 1) (next_too_large n fits h))

-- behind one below 0
pub from_zero : (n : ℤ) → int_le (pos 0) n ≡ false → Some (pos 0) ≡ representable (least_after (Some n))
from_zero n h = let below : int_lt n (pos 0) ≡ true = grind (arith, ints) in rw below (sym (representable_is (pos 0) (record { sfits = omega arith })))

-- ---- numbers that are free

pub free_here : (k : ℕ) (taken : List ℤ) (n : ℤ) → is_among n taken ≡ false → free_within k taken n ≡ n
unfolding free_within
free_here zero taken n h = refl
free_here (suc k) taken n h = rw h refl

pub free_next : (k : ℕ) (taken : List ℤ) (n : ℤ) → 0 < k → is_among n taken ≡ true → free_within k taken n ≡ free_within (k - 1) taken (n +ℤ pos 1)
unfolding free_within
free_next zero taken n some h = absurd (omega arith)
free_next (suc k) taken n some h = rw (h, sub-one) refl

pub free_over : (k : ℕ) (taken : List ℤ) (n : ℤ) → k ≤ 0 → free_within k taken n ≡ n
unfolding free_within
free_over zero taken n h = refl
free_over (suc k) taken n h = absurd (omega arith)

pub free_from : (k : ℕ) (taken : List ℤ) (n : ℤ) → n ≤ℤ free_within k taken n
unfolding free_within
free_from zero taken n = omega (arith, ints)
free_from (suc k) taken n =
    elim (is_among n taken) as (λ b. n ≤ℤ (if b then free_within k taken (n +ℤ pos 1) else n)) [
      | true ↦ (let later = free_from k taken (n +ℤ pos 1) in omega (arith, ints))
      | false ↦ omega (arith, ints)
    ]

pub free_to : (k : ℕ) (taken : List ℤ) (n : ℤ) → free_within k taken n ≤ℤ (n +ℤ pos k)
unfolding free_within
free_to zero taken n = omega (arith, ints)
free_to (suc k) taken n =
    elim (is_among n taken) as (λ b. (if b then free_within k taken (n +ℤ pos 1) else n) ≤ℤ (n +ℤ pos (suc k))) [
      | true ↦ (let later = free_to k taken (n +ℤ pos 1) in omega (arith, ints))
      | false ↦ omega (arith, ints)
    ]

-- where none is left from n on, none is free
pub none_free : (taken : List ℤ) (n : ℤ) → None ≡ representable n → None ≡ representable (first_free taken n)
none_free taken n h = sym (representable_none (first_free taken n) (let large = too_large n h in let later = free_from (length taken) taken n in omega (arith, ints)))

-- The turns of the search: k more are tried from n on.
module _ (taken : List ℤ) (from n : ℤ) (k : ℕ) (in_range : FitsSigned w128 from)
    (so_far : first_free taken (to_z w128 (of_z w128 from)) ≡ free_within k taken n) where
  is_free : free_within k taken n ≡ first_free taken from
  is_free = sym so_far ∙ ap (first_free taken) (to_z-of_z w128 from in_range)

  pub found : is_among n taken ≡ false → FitsSigned w128 n → Some n ≡ representable (first_free taken from)
  found h fits = sym (representable_is n fits) ∙ ap representable (sym (free_here k taken n h) ∙ is_free)

  pub found_last : k ≤ 0 → FitsSigned w128 n → Some n ≡ representable (first_free taken from)
  found_last h fits = sym (representable_is n fits) ∙ ap representable (sym (free_over k taken n h) ∙ is_free)

  pub not_found : 0 < k → is_among n taken ≡ true → FitsSigned w128 n → (FitsSigned w128 (n +ℤ pos 1) → ⊥) → None ≡ representable (first_free taken from)
  not_found some h fits over =
      let large = next_too_large n fits over in
      let later = free_from (k - 1) taken (n +ℤ pos 1) in
      sym (representable_none _ (let more : pos (2 ^ 127) ≤ℤ free_within (k - 1) taken (n +ℤ pos 1) = omega (arith, ints) in more))
      ∙ ap representable (sym (free_next k taken n some h) ∙ is_free)

  pub goes_on : 0 < k → is_among n taken ≡ true → first_free taken (to_z w128 (of_z w128 from)) ≡ free_within (k - 1) taken (n +ℤ pos 1)
  goes_on some h = so_far ∙ free_next k taken n some h

-- ---- the root

-- where these are given, from n on, and those found so far and those of the items from i on are the whole
module _ (given : List ℤ) (n : ℤ) (items : List (Option ℤ)) (i : ℕ) (whole found : List ℤ) (less : i < length items)
    (so_far : whole ≡ found ++ root_numbers given n (drop i items)) where
  pub root_given : (m : ℤ) → get_or items i None ≡ Some m → whole ≡ (found ++ m ∷ []) ++ root_numbers given n (drop (i + 1) items)
  root_given m h =
      so_far ∙ ap (λ xs. found ++ root_numbers given n xs) (drop-cons items i None less ∙ ap₂ (λ x j. x ∷ drop j items) h (sym (add-one i)))
      ∙ sym (append_assoc found (m ∷ []) (root_numbers given n (drop (i + 1) items)))

  pub root_free : (m : ℤ) → get_or items i None ≡ None → m ≡ first_free given n → whole ≡ (found ++ m ∷ []) ++ root_numbers given (m +ℤ pos 1) (drop (i + 1) items)
  root_free m h is =
      so_far ∙ ap (λ xs. found ++ root_numbers given n xs) (drop-cons items i None less ∙ ap₂ (λ x j. x ∷ drop j items) h (sym (add-one i)))
      ∙ ap (λ k. found ++ k ∷ root_numbers given (k +ℤ pos 1) (drop (i + 1) items)) (sym is)
      ∙ sym (append_assoc found (m ∷ []) (root_numbers given (m +ℤ pos 1) (drop (i + 1) items)))

-- What is allowed, as a relation and as a test; where it changes.
use Rattle.std.proofs.Common.{◌≡◌, ◌⊎◌, inl, inr, List, [], ◌∷◌, Bool, true, false, not, ◌&&◌, ◌||◌, if◌then◌else◌, Option, Some}
use Rattle.std.proofs.Common.{None, refl, sym, ap₂, ◌∙◌, arith}
use Rattle.std.specs.Prelude.{ℤ, pos, ◌+ℤ◌, ◌≤ℤ◌, ◌<ℤ◌, int_le}
use Rattle.std.proofs.lemmas.Int.{ints}
use Rattle.std.proofs.lemmas.Bool.{and_parts, and_from, or_cases, or_left, or_right, both_ways, not_from_false, not-true, false_from_ne_true}
use Rattle.oer_module_bounds.specs.Hull.{IsHull, edges, edges_of, low_edges, high_edges, hull, effective}
use Rattle.oer_module_bounds.specs.Laws.{EffectiveIsLeast, HullIsLeast, OneHull}
use Rattle.oer_module_bounds.specs.Numbers.{IsFrom, IsTo, Allows, AllowsOne, AllowsEach, AllowsInAll, is_from, is_to, allows}
use Rattle.oer_module_bounds.specs.Numbers.{allows_one, allows_each, bounding}
use Rattle.oer_module_bounds.specs.Sets.{Each, Set, range, union, intersection, except, unknown, Sets, no_sets, one, Constraint}
use Rattle.oer_module_bounds.proofs.Cuts.{each_first, each_second, le_true, true_le, false_le}
use Rattle.oer_module_bounds.proofs.Hulls.{Told, edges_are_hull, hull_same, one_hull}

-- ---- the test decides the relation

from_true : (l : Option ℤ) (n : ℤ) → is_from l n ≡ true → IsFrom l n
from_true None n h = tt
from_true (Some l) n h = le_true l n h

true_from : (l : Option ℤ) (n : ℤ) → IsFrom l n → is_from l n ≡ true
true_from None n h = refl
true_from (Some l) n h = true_le l n h

to_true : (l : Option ℤ) (n : ℤ) → is_to l n ≡ true → IsTo l n
to_true None n h = tt
to_true (Some l) n h = le_true n l h

true_to : (l : Option ℤ) (n : ℤ) → IsTo l n → is_to l n ≡ true
true_to None n h = refl
true_to (Some l) n h = true_le n l h

mutual
  pub is_allowed : (all : Bool) (s : Set) (n : ℤ) → allows all s n ≡ true → Allows all s n
  is_allowed all (range r) n h = let w = and_parts (is_from r.low n) (is_to r.high n) h in (from_true r.low n w.0, to_true r.high n w.1)
  is_allowed all (union ss) n h = is_allowed_one all ss n h
  is_allowed all (intersection ss) n h = is_allowed_each all ss n h
  is_allowed all (except s t) n h =
      let w = and_parts (allows all s n) (not (allows (not all) t n)) h in
      (is_allowed all s n w.0, λ k. both_ways (allows (not all) t n) (not-true (allows (not all) t n) w.1) (passes (not all) t n k))
  is_allowed all unknown n h = h

  is_allowed_one : (all : Bool) (ss : Sets) (n : ℤ) → allows_one all ss n ≡ true → AllowsOne all ss n
  is_allowed_one all no_sets n h = absurd (cc)
  is_allowed_one all (one s ss) n h =
      elim (or_cases (allows all s n) (allows_one all ss n) h) [ inl k ↦ inl (is_allowed all s n k) | inr k ↦ inr (is_allowed_one all ss n k) ]

  is_allowed_each : (all : Bool) (ss : Sets) (n : ℤ) → allows_each all ss n ≡ true → AllowsEach all ss n
  is_allowed_each all no_sets n h = tt
  is_allowed_each all (one s ss) n h =
      let w = and_parts (allows all s n) (allows_each all ss n) h in (is_allowed all s n w.0, is_allowed_each all ss n w.1)

  pub passes : (all : Bool) (s : Set) (n : ℤ) → Allows all s n → allows all s n ≡ true
  passes all (range r) n h = and_from (is_from r.low n) (is_to r.high n) (true_from r.low n h.0) (true_to r.high n h.1)
  passes all (union ss) n h = passes_one all ss n h
  passes all (intersection ss) n h = passes_each all ss n h
  passes all (except s t) n h =
      and_from (allows all s n) (not (allows (not all) t n)) (passes all s n h.0)
      (not_from_false (allows (not all) t n) (false_from_ne_true (allows (not all) t n) (λ k. h.1 (is_allowed (not all) t n k))))
  passes all unknown n h = h

  passes_one : (all : Bool) (ss : Sets) (n : ℤ) → AllowsOne all ss n → allows_one all ss n ≡ true
  passes_one all no_sets n h = absurd h
  passes_one all (one s ss) n (inl k) = or_left (allows all s n) (allows_one all ss n) (passes all s n k)
  passes_one all (one s ss) n (inr k) = or_right (allows all s n) (allows_one all ss n) (passes_one all ss n k)

  passes_each : (all : Bool) (ss : Sets) (n : ℤ) → AllowsEach all ss n → allows_each all ss n ≡ true
  passes_each all no_sets n h = refl
  passes_each all (one s ss) n h = and_from (allows all s n) (allows_each all ss n) (passes all s n h.0) (passes_each all ss n h.1)

-- ---- it changes at edges alone

abbrev Clear : ℤ → ℤ → List ℤ → Type 0
Clear n m es = Each (λ e. (e ≤ℤ n) ⊎ (m <ℤ e)) es

le_low : (l n m : ℤ) → n ≤ℤ m → (l ≤ℤ n) ⊎ (m <ℤ l) → int_le l n ≡ int_le l m
le_low l n m h (inl k) = true_le l n k ∙ sym (true_le l m (omega (arith, ints)))
le_low l n m h (inr k) = false_le l n (omega (arith, ints)) ∙ sym (false_le l m k)

le_high : (l n m : ℤ) → n ≤ℤ m → ((l +ℤ pos 1) ≤ℤ n) ⊎ (m <ℤ (l +ℤ pos 1)) → int_le n l ≡ int_le m l
le_high l n m h (inl k) = false_le n l (omega (arith, ints)) ∙ sym (false_le m l (omega (arith, ints)))
le_high l n m h (inr k) = true_le n l (omega (arith, ints)) ∙ sym (true_le m l (omega (arith, ints)))

from_steady : (l : Option ℤ) (n m : ℤ) → n ≤ℤ m → Clear n m (low_edges l) → is_from l n ≡ is_from l m
from_steady None n m h c = refl
from_steady (Some l) n m h c = le_low l n m h c.0

to_steady : (l : Option ℤ) (n m : ℤ) → n ≤ℤ m → Clear n m (high_edges l) → is_to l n ≡ is_to l m
to_steady None n m h c = refl
to_steady (Some l) n m h c = le_high l n m h c.0

mutual
  pub allows_steady : (all : Bool) (s : Set) (n m : ℤ) → n ≤ℤ m → Clear n m (edges s) → allows all s n ≡ allows all s m
  allows_steady all (range r) n m h c =
      ap₂ (λ x y. x && y) (from_steady r.low n m h (each_first (λ e. (e ≤ℤ n) ⊎ (m <ℤ e)) (low_edges r.low) (high_edges r.high) c))
      (to_steady r.high n m h (each_second (λ e. (e ≤ℤ n) ⊎ (m <ℤ e)) (low_edges r.low) (high_edges r.high) c))
  allows_steady all (union ss) n m h c = one_steady all ss n m h c
  allows_steady all (intersection ss) n m h c = each_steady all ss n m h c
  allows_steady all (except s t) n m h c =
      ap₂ (λ x y. x && not y) (allows_steady all s n m h (each_first (λ e. (e ≤ℤ n) ⊎ (m <ℤ e)) (edges s) (edges t) c))
      (allows_steady (not all) t n m h (each_second (λ e. (e ≤ℤ n) ⊎ (m <ℤ e)) (edges s) (edges t) c))
  allows_steady all unknown n m h c = refl

  one_steady : (all : Bool) (ss : Sets) (n m : ℤ) → n ≤ℤ m → Clear n m (edges_of ss) → allows_one all ss n ≡ allows_one all ss m
  one_steady all no_sets n m h c = refl
  one_steady all (one s ss) n m h c =
      ap₂ (λ x y. x || y) (allows_steady all s n m h (each_first (λ e. (e ≤ℤ n) ⊎ (m <ℤ e)) (edges s) (edges_of ss) c))
      (one_steady all ss n m h (each_second (λ e. (e ≤ℤ n) ⊎ (m <ℤ e)) (edges s) (edges_of ss) c))

  each_steady : (all : Bool) (ss : Sets) (n m : ℤ) → n ≤ℤ m → Clear n m (edges_of ss) → allows_each all ss n ≡ allows_each all ss m
  each_steady all no_sets n m h c = refl
  each_steady all (one s ss) n m h c =
      ap₂ (λ x y. x && y) (allows_steady all s n m h (each_first (λ e. (e ≤ℤ n) ⊎ (m <ℤ e)) (edges s) (edges_of ss) c))
      (each_steady all ss n m h (each_second (λ e. (e ≤ℤ n) ⊎ (m <ℤ e)) (edges s) (edges_of ss) c))

-- ---- the laws

pub hull_is_told : (s : Set) → IsHull (Told (allows true s)) (hull s)
hull_is_told s = edges_are_hull (allows true s) (edges s) (record { steady = allows_steady true s })

pub hull_is_least : HullIsLeast
hull_is_least s = hull_same (Told (allows true s)) (λ n. Allows true s n) (λ n h. is_allowed true s n h) (λ n h. passes true s n h) (hull s) (hull_is_told s)

pub hull_is_one : OneHull
hull_is_one s a b h k = one_hull (λ n. Allows true s n) a b h k

each_more : (c : Constraint) (cs : List Constraint) (n : ℤ) (t : Bool) → c.extensible ≡ t → (AllowsEach true (bounding cs) n → AllowsInAll cs n)
    → AllowsEach true (if t then bounding cs else one c.root (bounding cs)) n → AllowsInAll (c ∷ cs) n
each_more c cs n true e f h = (inl e, f h)
each_more c cs n false e f h = (inr h.0, f h.1)

each_bounding : (cs : List Constraint) (n : ℤ) → AllowsEach true (bounding cs) n → AllowsInAll cs n
each_bounding [] n h = tt
each_bounding (c ∷ cs) n h = each_more c cs n c.extensible refl (λ k. each_bounding cs n k) h

bounding_more : (c : Constraint) (cs : List Constraint) (n : ℤ) (t : Bool) → c.extensible ≡ t → (c.extensible ≡ true) ⊎ Allows true c.root n
    → AllowsEach true (bounding cs) n → AllowsEach true (if t then bounding cs else one c.root (bounding cs)) n
bounding_more c cs n true e k h = h
bounding_more c cs n false e (inl k) h = absurd (both_ways c.extensible e k)
bounding_more c cs n false e (inr k) h = (k, h)

bounding_each : (cs : List Constraint) (n : ℤ) → AllowsInAll cs n → AllowsEach true (bounding cs) n
bounding_each [] n h = tt
bounding_each (c ∷ cs) n h = bounding_more c cs n c.extensible refl h.0 (bounding_each cs n h.1)

pub effective_is_least : EffectiveIsLeast
effective_is_least cs =
    hull_same (λ n. Allows true (intersection (bounding cs)) n) (λ n. AllowsInAll cs n) (λ n h. each_bounding cs n h) (λ n h. bounding_each cs n h)
    (effective cs) (hull_is_least (intersection (bounding cs)))

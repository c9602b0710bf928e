-- Which sets elements and constraints are.
use Rattle.std.proofs.Common.{◌≡◌, ℕ, zero, suc, List, [], ◌∷◌, ◌++◌, None, Ok, ap, subst, ◌∙◌}
use Rattle.oer_module_bounds.specs.Sets.{Constraint, Set, sets_from, unknown}
use Rattle.oer_module_lexer.specs.Token.{Spot}
use Rattle.oer_module_limits.specs.Errors.{Read, told_by}
use Rattle.oer_module_limits.specs.Marks.{is_extensible, is_mixed}
use Rattle.oer_module_limits.specs.Sets.{Measure, constraint, constraints, each, listed, number, range_by, row, row_read, set_at, set_by}
use Rattle.oer_module_limits.specs.Sets.{simple_by, single_by, single_of, size, sized_by, unseen_by}
use Rattle.oer_module_names.specs.declared.error.Place.{Place}
use Rattle.oer_module_syntax.specs.State.{State}
use Rattle.oer_module_syntax.specs.Tree.{Module}
use Rattle.oer_module_terms.specs.Constraints.{constraints_at}
use Rattle.oer_module_terms.specs.Trees.{Bound, Elements, Simple, Value}
use Rattle.oer_module_terms.specs.Trees as terms
use Rattle.oer_module_terms.specs.declared.tree.Narrowing.{Narrowing}
use Rattle.oer_module_values.specs.Errors.{in_module, place_in}
use Rattle.oer_module_values.specs.Kept.{kept}
use Rattle.oer_meant_leaves.specs.Sets.{AreConstraints, AreRow, AreSets, IsRoot, IsSet, another, another_set, by_all_except, by_elements}
use Rattle.oer_meant_leaves.specs.Sets.{by_except, by_intersection, by_size, by_union, no_constraints, no_more_sets, of_alphabet, of_narrowing}
use Rattle.oer_meant_leaves.specs.Sets.{of_others, of_values}
use Rattle.oer_meant_leaves.proofs.Numbers.{range_is, single_is}
use Rattle.oer_meant_leaves.proofs.Results.{limit_step, limit_told, same_ok, unless_ok, value_read}

module _ (ms : List Module) where
  -- ---- elements that hold no other set

  value_set : (k : Measure) (p : Place) (v : Value) (s : Set) → single_by ms k p v ≡ Ok s → IsSet ms k p.«module» (terms.simple (terms.value v)) s
  value_set (number g) p v s h = single_is ms g p v s h
  value_set size p v s h = subst (IsSet ms size p.«module» (terms.simple (terms.value v))) (same_ok h) (of_values p.«module» v)

  range_set : (k : Measure) (p : Place) (at : ℕ) (low high : Bound) (s : Set) → range_by ms k p low high ≡ Ok s
      → IsSet ms k p.«module» (terms.simple (terms.range at low high)) s
  range_set (number g) p at low high s h = range_is ms g p at low high s h
  range_set size p at low high s h = absurd (cc)

  narrowing_set : (k : Measure) (m at : ℕ) (kind : Narrowing) (ts : List Spot) (p : Place) (s : Set) → unseen_by k p ≡ Ok s
      → IsSet ms k m (terms.simple (terms.narrowing at kind ts)) s
  narrowing_set (number g) m at kind ts p s h = absurd (cc)
  narrowing_set size m at kind ts p s h = subst (IsSet ms size m (terms.simple (terms.narrowing at kind ts))) (same_ok h) (of_narrowing m at kind ts)

  alphabet_set : (k : Measure) (m at : ℕ) (c : terms.Constraint) (p : Place) (s : Set) → unseen_by k p ≡ Ok s → IsSet ms k m (terms.alphabet at c) s
  alphabet_set (number g) m at c p s h = absurd (cc)
  alphabet_set size m at c p s h = subst (IsSet ms size m (terms.alphabet at c)) (same_ok h) (of_alphabet m at c)

  simple_set : (k : Measure) (p : Place) (e : Simple) (s : Set) → simple_by ms k p e ≡ Ok s → IsSet ms k p.«module» (terms.simple e) s
  unfolding simple_by
  simple_set k p (terms.value v) s h = value_set k p v s h
  simple_set k p (terms.range at low high) s h = range_set k (place_in p.«module» at) at low high s h
  simple_set k p (terms.narrowing at kind ts) s h = narrowing_set k p.«module» at kind ts (place_in p.«module» at) s h
  simple_set k p (terms.type t) s h = absurd (cc)

  -- ---- one level, where the sets of elements are found

  abbrev Finds : (Measure → Place → Elements → Read Set) → Type 0
  Finds found = (k : Measure) (p : Place) (e : Elements) (s : Set) → found k p e ≡ Ok s → IsSet ms k p.«module» e s

  module _ (found : Measure → Place → Elements → Read Set) (finds : Finds found) where
    sets_are : (k : Measure) (p : Place) (es : terms.Sets) (ss : List Set) → each found k p (listed es) ≡ Ok ss
        → AreSets ms k p.«module» es (sets_from ss)
    sets_are k p terms.no_sets ss h = subst (λ l. AreSets ms k p.«module» terms.no_sets (sets_from l)) (same_ok h) (no_more_sets k p.«module»)
    sets_are k p (terms.set e es) ss h =
        let a = limit_step (single_of (found k p e)) _ ss h in
        let b = limit_step (each found k p (listed es)) _ ss a.2 in
        let c = limit_step (found k p e) _ a.0 a.1 in
        let is : c.0 ∷ b.0 ≡ ss = ap (λ l. l ++ b.0) (same_ok c.2) ∙ same_ok b.2 in
        subst (λ l. AreSets ms k p.«module» (terms.set e es) (sets_from l)) is
        (another_set k p.«module» e es c.0 (sets_from b.0) (finds k p e c.0 c.1) (sets_are k p es b.0 b.1))

    root_is : (k : Measure) (m : ℕ) (c : terms.Constraint) (d : Constraint) → constraint found k m c ≡ Ok d
        → (s : Set) × IsRoot ms k m c s × (record { root = s; extensible = is_extensible c } ≡ d)
    root_is k m (terms.subtype at root more exception) d h =
        let u = unless_ok (is_mixed root) _ _ d h in
        let f = limit_step (found k (place_in m at) root) _ d u.1 in
        (f.0, by_elements k m at root more exception f.0 (finds k (place_in m at) root f.0 f.1), same_ok f.2)
    root_is k m (terms.general at kind ts) d h = (unknown, of_others k m at kind ts, same_ok h)

    sized_set : (k : Measure) (m at : ℕ) (c : terms.Constraint) (s : Set) → sized_by found k (place_in m at) c ≡ Ok s
        → IsSet ms k m (terms.size at c) s
    sized_set (number g) m at c s h = absurd (cc)
    sized_set size m at c s h =
        let a = limit_step (constraint found (number None) m c) _ s h in
        let r = root_is (number None) m c a.0 a.1 in
        subst (IsSet ms size m (terms.size at c)) (ap (λ d. d.root) r.2 ∙ same_ok a.2) (by_size m at c r.0 r.1)

    level_is : (k : Measure) (p : Place) (e : Elements) (s : Set) → set_by ms found k p e ≡ Ok s → IsSet ms k p.«module» e s
    unfolding set_by
    level_is k p (terms.union es) s h =
        let a = limit_step (each found k p (listed es)) _ s h in
        subst (IsSet ms k p.«module» (terms.union es)) (same_ok a.2) (by_union k p.«module» es (sets_from a.0) (sets_are k p es a.0 a.1))
    level_is k p (terms.intersection es) s h =
        let a = limit_step (each found k p (listed es)) _ s h in
        subst (IsSet ms k p.«module» (terms.intersection es)) (same_ok a.2) (by_intersection k p.«module» es (sets_from a.0) (sets_are k p es a.0 a.1))
    level_is k p (terms.except e x) s h =
        let a = limit_step (found k p e) _ s h in
        let b = limit_step (found k p x) _ s a.2 in
        subst (IsSet ms k p.«module» (terms.except e x)) (same_ok b.2)
        (by_except k p.«module» e x a.0 b.0 (finds k p e a.0 a.1) (finds k p x b.0 b.1))
    level_is k p (terms.all_except x) s h =
        let a = limit_step (found k p x) _ s h in
        subst (IsSet ms k p.«module» (terms.all_except x)) (same_ok a.2) (by_all_except k p.«module» x a.0 (finds k p x a.0 a.1))
    level_is k p (terms.size at c) s h = sized_set k p.«module» at c s h
    level_is k p (terms.alphabet at c) s h = alphabet_set k p.«module» at c (place_in p.«module» at) s h
    level_is k p (terms.simple e) s h = simple_set k p e s h

    -- ---- constraints in a row

    constraints_are : (k : Measure) (m : ℕ) (cs : List terms.Constraint) (ds : List Constraint) → constraints found k m cs ≡ Ok ds
        → AreConstraints ms k m cs ds
    constraints_are k m [] ds h = subst (AreConstraints ms k m []) (same_ok h) no_constraints
    constraints_are k m (c ∷ cs) ds h =
        let a = limit_step (single_of (constraint found k m c)) _ ds h in
        let b = limit_step (constraints found k m cs) _ ds a.2 in
        let d = limit_step (constraint found k m c) _ a.0 a.1 in
        let r = root_is k m c d.0 d.1 in
        let is : record { root = r.0; extensible = is_extensible c } ∷ b.0 ≡ ds =
        ap (λ x. x ∷ b.0) r.2 ∙ ap (λ l. l ++ b.0) (same_ok d.2) ∙ same_ok b.2 in
        subst (AreConstraints ms k m (c ∷ cs)) is (another c r.0 cs b.0 r.1 (constraints_are k m cs b.0 b.1))

    read_is : (m : ℕ) (ts : List Spot) (cs : List terms.Constraint) → row_read m ts ≡ Ok cs
        → (rest : State) × (constraints_at 64 (kept ts) ≡ Ok (cs, rest))
    unfolding row_read
    read_is m ts cs h =
        let a = limit_step (told_by (in_module m (constraints_at 64 (kept ts)))) _ cs h in
        let b = value_read m (constraints_at 64 (kept ts)) a.0 (limit_told (in_module m (constraints_at 64 (kept ts))) a.0 a.1) in
        (a.0.1, b ∙ ap (λ l. Ok (l, a.0.1)) (same_ok a.2))

    row_is : (k : Measure) (m : ℕ) (ts : List Spot) (ds : List Constraint) → row found k m ts ≡ Ok ds → AreRow ms k m ts ds
    unfolding row
    row_is k m ts ds h =
        let a = limit_step (row_read m ts) _ ds h in
        let b = read_is m ts a.0 a.1 in
        record { read = a.0; rest = b.0; is = b.1; are = constraints_are k m a.0 ds a.2 }

  -- ---- all levels

  set_is : (levels : ℕ) (k : Measure) (p : Place) (e : Elements) (s : Set) → set_at ms levels k p e ≡ Ok s → IsSet ms k p.«module» e s
  unfolding set_at
  set_is zero k p e s h = absurd (cc)
  set_is (suc levels) k p e s h = level_is (set_at ms levels) (set_is levels) k p e s h

  pub row_found : (levels : ℕ) (k : Measure) (m : ℕ) (ts : List Spot) (ds : List Constraint) → row (set_at ms levels) k m ts ≡ Ok ds
      → AreRow ms k m ts ds
  row_found levels = row_is (set_at ms levels) (set_is levels)

-- The last of constraints in a row, and those that another follows.
use Rattle.std.proofs.Common.{◌≡◌, ℕ, zero, suc, ◌<◌, ◌≤◌, List, [], ◌∷◌, Bool, true, false, not, ◌&&◌, ◌||◌, length, drop, drop-cons, get_or, map, refl, ap, arith}
use Rattle.oer_module_limits.specs.Kinds.{bounds, narrows, stands_behind}
use Rattle.oer_module_limits.specs.declared.kinds.Kind.{Kind}
use Rattle.oer_module_limits.specs.Marks.{is_extensible}
use Rattle.oer_module_terms.specs.Trees.{Constraint}

module _ {A : Type 0} (f : A → Constraint) (c : Constraint) where
  pub bounds_followed : (xs : List A) (j : ℕ) → j < length xs → true ≡ bounds c (map f (drop j xs))
  bounds_followed [] j h = absurd (omega arith)
  bounds_followed (x ∷ xs) zero h = refl
  bounds_followed (x ∷ xs) (suc j) h = bounds_followed xs j (omega arith)

  pub bounds_last : (xs : List A) (j : ℕ) → length xs ≤ j → not (is_extensible c) ≡ bounds c (map f (drop j xs))
  bounds_last [] zero h = refl
  bounds_last [] (suc j) h = refl
  bounds_last (x ∷ xs) zero h = absurd (omega arith)
  bounds_last (x ∷ xs) (suc j) h = bounds_last xs j (omega arith)

-- a constraint and those behind it
module _ {A : Type 0} (f : A → Constraint) (k : Kind) (b : Bool) where
  pub narrows_step : (xs : List A) (i : ℕ) (x : A) → i < length xs
      → narrows k b (map f (drop i xs))
      ≡ ((bounds (f (get_or xs i x)) (map f (drop (suc i) xs)) && stands_behind k b (f (get_or xs i x))) || narrows k false (map f (drop (suc i) xs)))
  narrows_step xs i x h = ap (λ l. narrows k b (map f l)) (drop-cons xs i x h)

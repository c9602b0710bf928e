-- Constraints in a row that lose their markers, one after another.
use Rattle.std.proofs.Common.{◌≡◌, ℕ, zero, suc, ◌+◌, ◌<◌, ◌≤◌, List, [], ◌∷◌, ◌++◌, false, length, take, drop, map, get_or, set, refl, sym, ap, ◌∙◌, add-one, arith}
use Rattle.oer_module_bounds.specs.Sets.{Constraint, constraint_of}
use Rattle.oer_module_bounds.specs.declared.tree.Constraint.{Constraint as RawConstraint}
use Rattle.oer_module_limits.specs.Limits.{serially}

-- the same without its marker
abbrev pub bare : RawConstraint → RawConstraint
bare c = record { root = c.root; extensible = false }

-- those before i, and what becomes of those from i on
abbrev pub so_far : ℕ → List RawConstraint → List Constraint
so_far i s = map constraint_of (take i s) ++ serially (map constraint_of (drop i s))

pub begin : (s : List RawConstraint) → so_far 0 s ≡ serially (map constraint_of s)
begin [] = refl
begin (c ∷ cs) = refl

step : (i : ℕ) (s : List RawConstraint) (d : RawConstraint) → suc i < length s → so_far i s ≡ so_far (suc i) (set s i (bare (get_or s i d)))
step i [] d h = absurd (omega arith)
step zero (b ∷ []) d h = absurd (omega arith)
step zero (a ∷ b ∷ cs) d h = refl
step (suc i) (c ∷ cs) d h = ap (λ xs. constraint_of c ∷ xs) (step i cs d (omega arith))

-- the one at i loses its marker, where another follows it
pub turn : (i : ℕ) (s : List RawConstraint) (d : RawConstraint) → suc i < length s → so_far i s ≡ so_far (i + 1) (set s i (bare (get_or s i d)))
turn i s d h = step i s d h ∙ ap (λ j. so_far j (set s i (bare (get_or s i d)))) (sym (add-one i))

pub end : (i : ℕ) (s : List RawConstraint) → length s ≤ suc i → so_far i s ≡ map constraint_of s
end zero [] h = refl
end (suc i) [] h = refl
end zero (c ∷ []) h = refl
end zero (b ∷ c ∷ cs) h = absurd (omega arith)
end (suc i) (c ∷ cs) h = ap (λ xs. constraint_of c ∷ xs) (end i cs (omega arith))

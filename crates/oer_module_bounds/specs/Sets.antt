-- The trees of constraints that bound whole numbers (X.680, 50 and 51).
use Rattle.std.specs.Prelude.{⊤, List, [], ◌∷◌, Bool, false, ◌||◌, if◌then◌else◌, ℤ, int_lt, Option, Some, None}
use Rattle.std.specs.Ordering.{int_eq}
use Rattle.std.below.core.specs.declared.int.i128.TheConstants.{MIN, MAX}
use Rattle.oer_module_bounds.specs.declared.ends.Range.{Range as RawRange}
use Rattle.oer_module_bounds.specs.declared.tree.Constraint.{Constraint as RawConstraint}
use Rattle.oer_module_bounds.specs.declared.tree.Set.{Set as RawSet, fold-Set}
use Rattle.oer_module_bounds.specs.declared.tree.Set.TheOpen.{Set-F}

-- P holds of each of them
abbrev pub Each : {A : Type 0} → (A → Type 0) → List A → Type 0
Each P [] = ⊤
Each P (x ∷ xs) = P x × Each P xs

-- the numbers from low to high; an absent end is no bound
pub record Span : Type 0 where
  pub low : Option ℤ
  pub high : Option ℤ

abbrev pub everything : Span
everything = record { low = None; high = None }

-- sets of whole numbers; of what is unknown isn't known which it has
mutual
  pub data Set : Type 0 where
    range : Span → Set
    union intersection : Sets → Set
    except : Set → Set → Set
    unknown : Set

  pub data Sets : Type 0 where
    no_sets : Sets
    one : Set → Sets → Sets

-- a constraint, which has an extension marker or not
pub record Constraint : Type 0 where
  pub root : Set
  pub extensible : Bool

-- ---- what the code's types stand for

abbrev pub span_of : RawRange → Span
span_of r = record { low = r.low; high = r.high }

abbrev pub sets_from : List Set → Sets
sets_from [] = no_sets
sets_from (s ∷ ss) = one s (sets_from ss)

-- one level, with each part already seen as what it stands for
abbrev pub set_step : Set-F Set → Set
set_step (Set-F.Range r) = range (span_of r)
set_step (Set-F.Union ss) = union (sets_from ss.items)
set_step (Set-F.Intersection ss) = intersection (sets_from ss.items)
set_step (Set-F.Except s t) = except s.value t.value
set_step Set-F.Unknown = unknown

abbrev pub set_of : RawSet → Set
set_of = fold-Set Set set_step

abbrev pub constraint_of : RawConstraint → Constraint
constraint_of c = record { root = set_of c.root; extensible = c.extensible }

-- ---- ranges whose ends have 128 bits, and not the last of them

abbrev pub is_least : Option ℤ → Bool
is_least None = false
is_least (Some n) = int_eq n MIN

abbrev pub is_greatest : Option ℤ → Bool
is_greatest None = false
is_greatest (Some n) = int_eq n MAX

abbrev pub range_from : Option ℤ → Option ℤ → Option Span
range_from low high = if is_least low || is_greatest high then None else Some (record { low = low; high = high })

-- ---- ranges

-- whether the upper end is below the lower
abbrev pub crossed : Option ℤ → Option ℤ → Bool
crossed None high = false
crossed (Some l) None = false
crossed (Some l) (Some h) = int_lt h l

-- the range, none where it has no number
abbrev pub filled : Span → Option Span
filled r = if crossed r.low r.high then None else Some r

-- The least range that has all numbers of a set.
use Rattle.std.specs.Prelude.{List, [], ◌∷◌, ◌++◌, Bool, true, false, if◌then◌else◌, ℤ, pos, ◌+ℤ◌, ◌-ℤ◌, ◌<ℤ◌, Option, Some, None}
use Rattle.std.specs.Int.{int_max, int_min}
use Rattle.std.specs.List.{filter, fold}
use Rattle.oer_module_bounds.specs.Numbers.{IsFrom, IsTo, allows, bounding}
use Rattle.oer_module_bounds.specs.Sets.{Span, Set, range, union, intersection, except, unknown, Sets, no_sets, one, Constraint}

-- ---- the relation

-- The lower end is one of the numbers; it is absent where there are numbers below each.
abbrev pub LowEnd : (ℤ → Type 0) → Option ℤ → Type 0
LowEnd P None = (m : ℤ) → (n : ℤ) × (n <ℤ m) × P n
LowEnd P (Some l) = P l

-- The upper end is one of the numbers; it is absent where there are numbers above each.
abbrev pub HighEnd : (ℤ → Type 0) → Option ℤ → Type 0
HighEnd P None = (m : ℤ) → (n : ℤ) × (m <ℤ n) × P n
HighEnd P (Some h) = P h

-- The least range that has all the numbers, none where there are none.
abbrev pub IsHull : (ℤ → Type 0) → Option Span → Type 0
IsHull P None = (n : ℤ) → ¬ P n
IsHull P (Some r) = ((n : ℤ) → P n → IsFrom r.low n × IsTo r.high n) × LowEnd P r.low × HighEnd P r.high

-- ---- the function: from one edge to the next, a set allows all numbers or none

abbrev pub low_edges : Option ℤ → List ℤ
low_edges None = []
low_edges (Some l) = l ∷ []

abbrev pub high_edges : Option ℤ → List ℤ
high_edges None = []
high_edges (Some h) = (h +ℤ pos 1) ∷ []

-- the least number of each range, and the one past its greatest
abbrev mutual
  pub edges : Set → List ℤ
  edges (range r) = low_edges r.low ++ high_edges r.high
  edges (union ss) = edges_of ss
  edges (intersection ss) = edges_of ss
  edges (except s t) = edges s ++ edges t
  edges unknown = []

  pub edges_of : Sets → List ℤ
  edges_of no_sets = []
  edges_of (one s ss) = edges s ++ edges_of ss

-- a number below all edges
abbrev pub floor : List ℤ → ℤ
floor es = fold int_min (pos 0) es -ℤ pos 1

-- a number that no edge is above
abbrev pub ceiling : List ℤ → ℤ
ceiling es = fold int_max (pos 0) es

-- the least and the greatest of some numbers
abbrev pub least : List ℤ → Option ℤ
least [] = None
least (n ∷ ns) = Some (fold int_min n ns)

abbrev pub before_greatest : List ℤ → Option ℤ
before_greatest [] = None
before_greatest (n ∷ ns) = Some (fold int_max n ns -ℤ pos 1)

abbrev pub low_by : (ℤ → Bool) → List ℤ → Option ℤ
low_by p es = if p (floor es) then None else least (filter p es)

abbrev pub high_by : (ℤ → Bool) → List ℤ → Option ℤ
high_by p es = if p (ceiling es) then None else before_greatest (filter (λ e. p (e -ℤ pos 1)) es)

-- none where neither the numbers below all edges are allowed nor an edge is
abbrev pub unless_empty : Bool → List ℤ → Span → Option Span
unless_empty false [] r = None
unless_empty false (e ∷ es) r = Some r
unless_empty true es r = Some r

-- The range from the least edge that is allowed to the number before the greatest that ends what is allowed.
abbrev pub hull_by : (ℤ → Bool) → List ℤ → Option Span
hull_by p es = unless_empty (p (floor es)) (filter p es) (record { low = low_by p es; high = high_by p es })

abbrev pub hull : Set → Option Span
hull s = hull_by (allows true s) (edges s)

abbrev pub effective : List Constraint → Option Span
effective cs = hull (intersection (bounding cs))

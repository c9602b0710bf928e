-- Which numbers sets and constraints allow (X.680, 50 and 51).
use Rattle.std.specs.Prelude.{ℕ, List, [], ◌∷◌, ◌⊎◌, ⊤, Bool, true, false, not, ◌&&◌, ◌||◌, if◌then◌else◌, IsTrue, ℤ, ◌≤ℤ◌}
use Rattle.std.specs.Prelude.{int_le, Option, Some, None}
use Rattle.std.specs.List.{count_by}
use Rattle.oer_module_bounds.specs.Sets.{Each, Span, Set, range, union, intersection, except, unknown, Sets, no_sets, one, Constraint}

-- ---- the relation

-- not below the lower end, if there is one
abbrev pub IsFrom : Option ℤ → ℤ → Type 0
IsFrom None n = ⊤
IsFrom (Some l) n = l ≤ℤ n

-- not above the upper end, if there is one
abbrev pub IsTo : Option ℤ → ℤ → Type 0
IsTo None n = ⊤
IsTo (Some h) n = n ≤ℤ h

-- A set allows a number. Elements that can't be seen as numbers allow all, or none; after EXCEPT it is the other way round.
abbrev mutual
  pub Allows : Bool → Set → ℤ → Type 0
  Allows all (range r) n = IsFrom r.low n × IsTo r.high n
  Allows all (union ss) n = AllowsOne all ss n
  Allows all (intersection ss) n = AllowsEach all ss n
  Allows all (except s t) n = Allows all s n × ¬ Allows (not all) t n
  Allows all unknown n = IsTrue all

  -- one of them does
  pub AllowsOne : Bool → Sets → ℤ → Type 0
  AllowsOne all no_sets n = ⊥
  AllowsOne all (one s ss) n = Allows all s n ⊎ AllowsOne all ss n

  -- each of them does
  pub AllowsEach : Bool → Sets → ℤ → Type 0
  AllowsEach all no_sets n = ⊤
  AllowsEach all (one s ss) n = Allows all s n × AllowsEach all ss n

-- Constraints in a row allow a number: each that has no extension marker does.
abbrev pub AllowsInAll : List Constraint → ℤ → Type 0
AllowsInAll cs n = Each (λ c. IsTrue c.extensible ⊎ Allows true c.root n) cs

-- ---- the same as tests

abbrev pub is_from : Option ℤ → ℤ → Bool
is_from None n = true
is_from (Some l) n = int_le l n

abbrev pub is_to : Option ℤ → ℤ → Bool
is_to None n = true
is_to (Some h) n = int_le n h

abbrev pub within : Span → ℤ → Bool
within r n = is_from r.low n && is_to r.high n

abbrev mutual
  pub allows : Bool → Set → ℤ → Bool
  allows all (range r) n = within r n
  allows all (union ss) n = allows_one all ss n
  allows all (intersection ss) n = allows_each all ss n
  allows all (except s t) n = allows all s n && not (allows (not all) t n)
  allows all unknown n = all

  pub allows_one : Bool → Sets → ℤ → Bool
  allows_one all no_sets n = false
  allows_one all (one s ss) n = allows all s n || allows_one all ss n

  pub allows_each : Bool → Sets → ℤ → Bool
  allows_each all no_sets n = true
  allows_each all (one s ss) n = allows all s n && allows_each all ss n

-- the sets of the constraints that have no extension marker
abbrev pub bounding : List Constraint → Sets
bounding [] = no_sets
bounding (c ∷ cs) = if c.extensible then bounding cs else one c.root (bounding cs)

-- how many of the sets allow it
abbrev pub allowed_by : Bool → List Set → ℤ → ℕ
allowed_by all ss n = count_by (λ s. allows all s n) ss

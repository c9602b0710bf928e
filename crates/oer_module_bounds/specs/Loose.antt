-- The range of a set as PER reads it (X.691, 10.3).
use Rattle.std.specs.Prelude.{List, [], ◌∷◌, Bool, true, false, ◌&&◌, ℤ, Option, Some, None}
use Rattle.std.specs.Int.{int_max, int_min}
use Rattle.std.specs.List.{fold}
use Rattle.oer_module_bounds.specs.Sets.{Span, everything, filled, Set, range, union, intersection, except, unknown, Sets, no_sets, one, Constraint}
use Rattle.oer_module_bounds.specs.Numbers.{bounding}

-- of two ends, none where one is absent
abbrev pub outer_end : (ℤ → ℤ → ℤ) → Option ℤ → Option ℤ → Option ℤ
outer_end f None b = None
outer_end f (Some m) None = None
outer_end f (Some m) (Some n) = Some (f m n)

-- of two ends, the other where one is absent
abbrev pub inner_end : (ℤ → ℤ → ℤ) → Option ℤ → Option ℤ → Option ℤ
inner_end f None b = b
inner_end f (Some m) None = Some m
inner_end f (Some m) (Some n) = Some (f m n)

-- the least range that has two
abbrev pub join : Option Span → Option Span → Option Span
join None b = b
join (Some r) None = Some r
join (Some r) (Some s) = Some (record { low = outer_end int_min r.low s.low; high = outer_end int_max r.high s.high })

-- what two ranges share
abbrev pub meet : Option Span → Option Span → Option Span
meet None b = None
meet (Some r) None = None
meet (Some r) (Some s) = filled (record { low = inner_end int_max r.low s.low; high = inner_end int_min r.high s.high })

-- EXCEPT and what follows it are left out; ranges are joined and met part by part
abbrev mutual
  pub loose : Set → Option Span
  loose (range r) = filled r
  loose (union ss) = fold join None (loose_each ss)
  loose (intersection ss) = fold meet (Some everything) (loose_each ss)
  loose (except s t) = loose s
  loose unknown = Some everything

  pub loose_each : Sets → List (Option Span)
  loose_each no_sets = []
  loose_each (one s ss) = loose s ∷ loose_each ss

abbrev pub loose_effective : List Constraint → Option Span
loose_effective cs = loose (intersection (bounding cs))

-- ---- where this is the hull

-- Nothing is taken away, and nothing lies between members that are joined.
abbrev mutual
  pub is_plain : Set → Bool
  is_plain (range r) = true
  is_plain (union ss) = is_one_plain ss
  is_plain (intersection ss) = are_plain ss
  is_plain (except s t) = false
  is_plain unknown = true

  -- there is one set, and it is plain
  pub is_one_plain : Sets → Bool
  is_one_plain no_sets = false
  is_one_plain (one s no_sets) = is_plain s
  is_one_plain (one s (one t ss)) = false

  -- each is
  pub are_plain : Sets → Bool
  are_plain no_sets = true
  are_plain (one s ss) = is_plain s && are_plain ss

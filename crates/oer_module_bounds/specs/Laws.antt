-- What holds of hulls.
use Rattle.std.specs.Prelude.{◌≡◌, List, true, ℤ, Option, Some, None}
use Rattle.oer_module_bounds.specs.Hull.{IsHull, hull, effective}
use Rattle.oer_module_bounds.specs.Loose.{loose, loose_effective}
use Rattle.oer_module_bounds.specs.Numbers.{IsFrom, IsTo, Allows, AllowsInAll}
use Rattle.oer_module_bounds.specs.Sets.{Span, Set, Constraint}

-- The hull of a set is the least range that has all that the set allows.
abbrev pub HullIsLeast : Type 0
HullIsLeast = (s : Set) → IsHull (λ n. Allows true s n) (hull s)

-- The range of constraints in a row is the least that has all that they allow.
abbrev pub EffectiveIsLeast : Type 0
EffectiveIsLeast = (cs : List Constraint) → IsHull (λ n. AllowsInAll cs n) (effective cs)

-- There is one such range.
abbrev pub OneHull : Type 0
OneHull = (s : Set) (a b : Option Span) → IsHull (λ n. Allows true s n) a → IsHull (λ n. Allows true s n) b → a ≡ b

-- n lies in the range, if there is one
abbrev pub IsIn : Option Span → ℤ → Type 0
IsIn None n = ⊥
IsIn (Some r) n = IsFrom r.low n × IsTo r.high n

-- What lies in the hull lies in the range as PER reads it, too.
abbrev pub LooseHasHull : Type 0
LooseHasHull = (s : Set) (n : ℤ) → IsIn (hull s) n → IsIn (loose s) n

abbrev pub LooseEffectiveHasEffective : Type 0
LooseEffectiveHasEffective = (cs : List Constraint) (n : ℤ) → IsIn (effective cs) n → IsIn (loose_effective cs) n

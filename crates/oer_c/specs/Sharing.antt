-- The types that a handle has, and what giving them to another one answers.
use Rattle.std.specs.Prelude.{◌≡◌, ℕ, Option, None, Some, option_map, ◌⊎◌}
use Rattle.std.specs.Arc.{arc_value}
use Rattle.oer_notation.specs.declared.types.Types.{Types}
use Rattle.oer_c.specs.declared.shared.Shared.{Shared}

-- the types, however many handles have them
abbrev pub types_in : Shared → Types
types_in s = arc_value s.types

-- the types of a handle, by what it holds
abbrev pub types_of : Option Shared → Option Types
types_of = option_map types_in

-- The other handle has these types; or an allocation failed, and it has those from before.
abbrev pub IsGiven : Types → Option Types → Option Types → ℕ → Type 0
IsGiven t old new status = ((status ≡ 0) × (new ≡ Some t)) ⊎ ((status ≡ 4) × (new ≡ old))

-- The same of the types of a handle, where it has some; the status is 2 where it has none.
abbrev pub IsShared : Option Types → Option Types → Option Types → ℕ → Type 0
IsShared None old new status = (status ≡ 2) × (new ≡ old)
IsShared (Some t) old new status = IsGiven t old new status

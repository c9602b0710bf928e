-- A sink that compares what is written with octets that are there.
use Rattle.std.specs.Prelude.{◌≡◌, ℕ, ◌+◌, ◌≤◌, List, [], ◌∷◌, ◌++◌, length, take, drop, Bool, false, eqb, if◌then◌else◌, Option, Some, None}
use Rattle.oer_leaves.specs.declared.comparison.Comparison.{Comparison}
use Rattle.oer_leaves.specs.declared.comparison.Differing.{Differing}

-- the first octet is x
abbrev pub begins_with : ℕ → List ℕ → Bool
begins_with x [] = false
begins_with x (y ∷ ys) = eqb y x

-- what was written after the octets that are there, and these after their number: so it tells which they are
abbrev pub beside : List ℕ → List ℕ → List ℕ
beside octets written = length octets ∷ (octets ++ written)

-- written were the first so many of the octets, and one after them that isn't the next; nothing is known where it is
abbrev pub held_at : List ℕ → ℕ → Option Differing → Option (List ℕ)
held_at octets at None = Some (beside octets (take at octets))
held_at octets at (Some d) = if begins_with d.octet (drop at octets) then None else Some (beside octets (take at octets ++ d.octet ∷ []))

abbrev pub failures_at : Option Differing → ℕ
failures_at None = 0
failures_at (Some d) = d.failures

abbrev pub held_by : Comparison → Option (List ℕ)
held_by c = held_at c.octets.now c.at c.differing

-- how many calls failed
abbrev pub failed_of : Comparison → ℕ
failed_of c = failures_at c.differing

-- all octets came, and no other
abbrev pub IsSame : Comparison → Type 0
IsSame c = (c.differing ≡ None) × (length c.octets.now ≤ c.at)

-- the part stands in the octets after the first so many
abbrev pub StandsAt : List ℕ → ℕ → List ℕ → Type 0
StandsAt octets at part = (at + length part ≤ length octets) × (take (at + length part) octets ≡ take at octets ++ part)

-- the part stands next, and no octet differed before it
abbrev pub StandsNext : Comparison → List ℕ → Type 0
StandsNext c part = (c.differing ≡ None) × StandsAt c.octets.now c.at part

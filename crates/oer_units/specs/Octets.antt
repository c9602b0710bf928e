-- Lists of octets, and the shortest of them.
use Rattle.std.specs.Prelude.{ℕ, ◌<◌, ◌≤◌, List, [], ◌∷◌, length}

abbrev pub IsOctets : List ℕ → Type 0
IsOctets [] = Unit {0}
IsOctets (x ∷ xs) = (x < 256) × IsOctets xs

-- the relation holds for this list of octets, and for none that is shorter
abbrev pub IsShortest : (List ℕ → Type 0) → List ℕ → Type 0
IsShortest S b = IsOctets b × S b × ((c : List ℕ) → IsOctets c → S c → length b ≤ length c)

-- The count of a type's parts.
use Rattle.std.specs.Prelude.{◌≡◌, ℕ, ◌+◌, ◌<◌, Option, MatchOption}

-- of so many parts that may be left, what is left after these; none where they are more
abbrev pub Leaves : Option ℕ → ℕ → ℕ → Type 0 → Type 0
Leaves result left parts Q = MatchOption result (left < parts) (λ rest. (rest + parts ≡ left) × Q)

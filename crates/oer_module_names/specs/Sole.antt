-- Names and their numbers: the number of a Name that has but one.
use Rattle.std.specs.Prelude.{ℕ, suc, List, [], ◌∷◌, map, Bool, true, false, nat_eq, if◌then◌else◌}
use Rattle.std.specs.Str.{bytes_eq}
use Rattle.oer_module_names.specs.declared.index.Sole.{Sole}
use Rattle.oer_module_names.specs.declared.index.Sole.TheVariants.{Nothing, One, Two}

-- a Name, and a number that it has
pub record Entry : Type 0 where
  pub name : List ℕ
  pub number : ℕ

-- one number more: the first stays, and so does the first that differs from it
abbrev pub with_number : Sole → ℕ → Sole
with_number Nothing n = One n
with_number (One a) n = if nat_eq a n then One a else Two a n
with_number (Two a b) n = Two a b

abbrev pub with_entry : Sole → Entry → List ℕ → Sole
with_entry s e w = if bytes_eq e.name w then with_number s e.number else s

abbrev pub sole_from : Sole → List Entry → List ℕ → Sole
sole_from s [] w = s
sole_from s (e ∷ es) w = sole_from (with_entry s e w) es w

-- what a Name has: nothing, one number, or the first two that differ
unfoldable pub sole : List Entry → List ℕ → Sole
sole es w = sole_from Nothing es w

-- the first number, or n where there is none
abbrev pub first_of : Sole → ℕ → ℕ
first_of Nothing n = n
first_of (One a) n = a
first_of (Two a b) n = a

abbrev pub is_there : Sole → Bool
is_there Nothing = false
is_there (One a) = true
is_there (Two a b) = true

-- Names in their order, each with its place in it
abbrev pub numbered : ℕ → List (List ℕ) → List Entry
numbered n [] = []
numbered n (w ∷ ws) = record { name = w; number = n } ∷ numbered (suc n) ws

-- Names that all have one number
abbrev pub each : List (List ℕ) → ℕ → List Entry
each ws n = map (λ w. record { name = w; number = n }) ws

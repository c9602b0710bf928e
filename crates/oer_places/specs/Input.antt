-- What an input begins with.
use Rattle.std.specs.Prelude.{◌≡◌, ℕ, List, length, min, take, Option, IfSome}

-- some front of what the input has left, where that is known
abbrev pub IsFront : Option (List ℕ) → List ℕ → Type 0
IsFront told b = IfSome told (λ xs. (n : ℕ) × (b ≡ take n xs))

-- how many octets are copied at most
abbrev pub most_copied : ℕ
most_copied = 65536

-- the first octets of a block
abbrev pub front_of : List ℕ → List ℕ
front_of block = take (min most_copied (length block)) block

-- The octets that standard input spells.
use Rattle.std.specs.Prelude.{◌≡◌, ◌≤◌, List, ℕ, Option, Some, None, Result, Ok, Err, ⊤, Vec}
use Rattle.std.specs.Io.KnownBytes.{Consumes, IsAtEnd}
use Rattle.std.specs.declared.alloc.Global.{Global}
use Rattle.oer_input.specs.Faults.{Read as Spelt}
use Rattle.oer_input_cmd.specs.Errors.{Read, error_by, status_of}
use Rattle.oer_input_cmd.specs.declared.error.Error.{Error}

-- These octets may be what the input had left: they are, where that is known.
abbrev pub MayBeLeft : Option (List ℕ) → List ℕ → Type 0
MayBeLeft None xs = ⊤
MayBeLeft (Some ys) xs = ys ≡ xs

-- the status of the program after this answer
abbrev pub status_after : {X : Type 0} → Result X Error → ℕ
status_after (Ok x) = 0
status_after (Err e) = status_of e

-- The input gave a front of what it had left: all of it, unless the machine failed.
abbrev pub GivesAll : ℕ → Option (List ℕ) → Option (List ℕ) → Type 0
GivesAll status old new = ((bs : List ℕ) × Consumes old new bs) × (status ≤ 2 → IsAtEnd new)

abbrev pub items_of : Vec ℕ Global → List ℕ
items_of v = v.items

-- the octets that a text spells
abbrev pub by_fault : Spelt → Read (List ℕ)
by_fault (Ok os) = Ok os
by_fault (Err fault) = Err (error_by fault)

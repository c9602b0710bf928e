-- The octets that a task is given.
use Rattle.std.specs.Prelude.{◌≡◌, ◌<◌, ℕ, List, length, Option, Some, None, Ok, IfSome, Vec, ⊤}
use Rattle.std.specs.Global.{Global}
use Rattle.hex.specs.Hex.{decode_of}
use Rattle.clap.specs.Words.{Text}
use Rattle.oer_cmd.specs.declared.fault.Fault.{Fault}
use Rattle.oer_cmd.specs.declared.fault.Fault.TheVariants.{Input, Longer, Memory}

-- the octets that the digits spell, if there are digits
abbrev pub AreSpelt : Option Text → Option (List ℕ) → Type 0
AreSpelt (Some digits) (Some b) = decode_of digits ≡ Ok b
AreSpelt None None = ⊤
AreSpelt _ _ = ⊥

-- all that there is: the octets in hand, else those that the input had left, where that is known
abbrev pub AreAll : Option (List ℕ) → Option (List ℕ) → List ℕ → Type 0
AreAll (Some b) told all = all ≡ b
AreAll None told all = IfSome told (λ xs. xs ≡ all)

-- they are more than the limit
abbrev pub AreMore : ℕ → Option (List ℕ) → Option (List ℕ) → Type 0
AreMore limit (Some b) told = limit < length b
AreMore limit None told = IfSome told (λ xs. limit < length xs)

-- Unless the input failed or memory ran out, the fault says that they are more than the limit, and they are.
abbrev pub IsTooLong : ℕ → Option (List ℕ) → Option (List ℕ) → Fault → Type 0
IsTooLong limit spelt told (Longer n) = (n ≡ limit) × AreMore limit spelt told
IsTooLong limit spelt told Input = ⊤
IsTooLong limit spelt told Memory = ⊤
IsTooLong limit spelt told fault = ⊥

abbrev pub octets_of : Vec ℕ Global → List ℕ
octets_of v = v.items

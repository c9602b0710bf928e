-- The octets that a text spells.
use Rattle.std.specs.Prelude.{◌≡◌, ℕ, List, true, Ok}
use Rattle.oer_input.specs.Base64.{SpellsBase64, base64_of, without_space}
use Rattle.oer_input.specs.Faults.{Read}
use Rattle.oer_input.specs.Hex.{SpellsHex, hex_of}
use Rattle.oer_input.specs.declared.coding.Coding.{Coding}
use Rattle.oer_input.specs.declared.coding.Coding.TheVariants as coding

-- The text spells these octets, by the rule of the coding.
abbrev pub Spells : Coding → List ℕ → List ℕ → Type 0
Spells coding.Raw t os = t ≡ os
Spells coding.Hex t os = SpellsHex true t os
Spells coding.Base64 t os = SpellsBase64 (without_space t) os

-- what the text is read as, from the left
abbrev pub octets_of : Coding → List ℕ → Read
octets_of coding.Raw t = Ok t
octets_of coding.Hex t = hex_of t
octets_of coding.Base64 t = base64_of t

-- What a refusal of a text says of it.
use Rattle.std.specs.Prelude.{◌≢◌, ℕ, List}
use Rattle.oer_model.specs.AsnType.{AsnType}
use Rattle.oer_model.specs.WellFormed.{IsWellFormed}
use Rattle.oer_notation.specs.Grammar.{AreWellFormed, Spells, SpellsAll}
use Rattle.oer_notation.specs.Reading.{Known}
use Rattle.oer_value_notation.specs.declared.fault.TextFault.{TextFault}
use Rattle.oer_value_notation.specs.declared.fault.TextWhy.TheVariants as why

-- Unless memory ran out, the text spells no well-formed type.
abbrev pub IsNoType : TextFault → List ℕ → Type 0
IsNoType fault text = fault.why ≢ why.Memory → (T : AsnType) → Spells T text → IsWellFormed T → ⊥

-- Unless memory ran out, the text spells no definitions whose types are all well-formed.
abbrev pub AreNoTypes : TextFault → List ℕ → Type 0
AreNoTypes fault text = fault.why ≢ why.Memory → (definitions : List Known) → SpellsAll definitions text → AreWellFormed definitions → ⊥

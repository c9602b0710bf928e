-- Laws of reading against the grammar.
use Rattle.std.specs.Prelude.{◌≡◌, ℕ, List, Ok, Err}
use Rattle.oer_model.specs.AsnType.{AsnType}
use Rattle.oer_model.specs.WellFormed.{IsWellFormed}
use Rattle.oer_notation.specs.Grammar.{Spells, SpellsAll, AreWellFormed}
use Rattle.oer_notation.specs.Parsing.{parse, parse_all}
use Rattle.oer_notation.specs.Reading.{Known}
use Rattle.oer_value_notation.specs.declared.fault.TextFault.{TextFault}

-- What is read of a text is a well-formed type that the text spells.
abbrev pub ParseSound : Type 0
ParseSound = (bs : List ℕ) (T : AsnType) → parse bs ≡ Ok T → Spells T bs × IsWellFormed T

-- Definitions that are read of a text are those that the text spells, their types well-formed.
abbrev pub ParseAllSound : Type 0
ParseAllSound = (bs : List ℕ) (ks : List Known) → parse_all bs ≡ Ok ks → SpellsAll ks bs × AreWellFormed ks

-- A well-formed type that a text spells is read of it.
abbrev pub ParseComplete : Type 0
ParseComplete = (bs : List ℕ) (T : AsnType) → Spells T bs → IsWellFormed T → parse bs ≡ Ok T

-- Definitions that a text spells are read of it, where their types are well-formed.
abbrev pub ParseAllComplete : Type 0
ParseAllComplete = (bs : List ℕ) (ks : List Known) → SpellsAll ks bs → AreWellFormed ks → parse_all bs ≡ Ok ks

-- What is refused spells no well-formed type.
abbrev pub ParseRefuses : Type 0
ParseRefuses = (bs : List ℕ) (e : TextFault) → parse bs ≡ Err e → (T : AsnType) → Spells T bs → IsWellFormed T → ⊥

-- What is refused spells no definitions whose types are all well-formed.
abbrev pub ParseAllRefuses : Type 0
ParseAllRefuses = (bs : List ℕ) (e : TextFault) → parse_all bs ≡ Err e → (ks : List Known) → SpellsAll ks bs → AreWellFormed ks → ⊥

-- A text spells at most one well-formed type.
abbrev pub OneType : Type 0
OneType = (bs : List ℕ) (T U : AsnType) → Spells T bs → Spells U bs → IsWellFormed T → IsWellFormed U → T ≡ U

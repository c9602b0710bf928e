-- A law of printing and reading.
use Rattle.std.specs.Prelude.{◌≡◌, ℕ, List, Some, Ok}
use Rattle.oer_model.specs.AsnType.{AsnType}
use Rattle.oer_model.specs.WellFormed.{IsWellFormed}
use Rattle.oer_notation.specs.Parsing.{parse}
use Rattle.oer_printer.specs.Printing.{printed}

-- What is printed of a well-formed type is read as this type.
abbrev pub PrintedIsRead : Type 0
PrintedIsRead = (T : AsnType) (text : List ℕ) → IsWellFormed T → printed T ≡ Some text → parse text ≡ Ok T

-- What holds of the definitions that are printed.
use Rattle.std.specs.Prelude.{◌≡◌, ℕ, List, [], ◌++◌, Ok}
use Rattle.oer_model.specs.AsnType.{AsnType}
use Rattle.oer_model.specs.WellFormed.{IsWellFormed}
use Rattle.oer_modules.specs.Listed.{Printed, one_line}
use Rattle.oer_modules.specs.Modules.{definitions_of_modules, type_of_modules}
use Rattle.oer_modules.specs.Schemas.{schema_of_modules}
use Rattle.oer_modules.specs.Words.{Text}
use Rattle.oer_notation.specs.Parsing.{parse}

-- `Name ::= type`, where that is the text of the Name's type, and is read as that type. It is well-formed, like each type that
-- the code is given by `schema_of_modules`.
pub record IsDefinition (ts : List Text) (n : ℕ) (line : Text) : Type 0 where
  pub name : Text
  pub text : Text
  pub type : AsnType
  pub read_type : AsnType
  pub is : line ≡ one_line name text
  pub asked : type_of_modules ts name n ≡ Ok text
  pub given : schema_of_modules ts name n ≡ Ok type
  pub read : parse text ≡ Ok read_type
  pub same : IsWellFormed type → read_type ≡ type

-- a text that falls into such lines
pub data AreDefinitions (ts : List Text) (n : ℕ) : Text → Type 0 where
  no_lines : AreDefinitions ts n []
  one_more : (lines line : Text) → AreDefinitions ts n lines → IsDefinition ts n line → AreDefinitions ts n (lines ++ line)

-- Each line that is printed before the comments is a definition, which parse_type reads as the Name's type.
abbrev pub PrintsDefinitions : Type 0
PrintsDefinitions = (ts : List Text) (n : ℕ) (p : Printed) → definitions_of_modules ts n ≡ Ok p → AreDefinitions ts n p.lines

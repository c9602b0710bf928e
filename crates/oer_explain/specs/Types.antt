-- What is added to the error of a text of types.
use Rattle.std.specs.Prelude.{ℕ, List, [], length, min, Bool, true, false, is_some, Result, Ok, Err, if◌then◌else◌}
use Rattle.std.specs.Str.{is_utf8}
use Rattle.std.specs.Str.Lossy.{utf8_valid_len}
use Rattle.oer_notation.specs.Parsing.{parse, parse_all}
use Rattle.oer_notation.specs.Reading.{Known, find}
use Rattle.oer_value_notation.specs.declared.fault.TextFault.{TextFault}
use Rattle.oer_value_notation.specs.declared.fault.TextWhy.TheVariants.{Token}
use Rattle.oer_explain.specs.Hints.{hint_of}
use Rattle.oer_explain.specs.Place.{notes_at}
use Rattle.oer_explain.specs.Reasons.{text_sentence}

-- What is said of this error of a text. No error is past the end of its text.
abbrev pub fault_notes : TextFault → List ℕ → List ℕ
fault_notes fault text = let at : ℕ = min fault.at (length text) in notes_at text at (text_sentence fault.why) (hint_of fault.why text at)

abbrev pub notes_by : {A : Type 0} → Result A TextFault → List ℕ → List ℕ
notes_by (Ok x) text = []
notes_by (Err fault) text = fault_notes fault text

-- the text of one type
abbrev pub type_notes : List ℕ → List ℕ
type_notes text = notes_by (parse text) text

-- that of definitions
abbrev pub definitions_notes : List ℕ → List ℕ
definitions_notes text = notes_by (parse_all text) text

-- the octets of a text of definitions
abbrev pub types_notes : List ℕ → List ℕ
types_notes octets = if is_utf8 octets then definitions_notes octets else fault_notes (record { at = utf8_valid_len octets; why = Token }) octets

abbrev pub is_accepted : {A : Type 0} → Result A TextFault → Bool
is_accepted (Ok x) = true
is_accepted (Err fault) = false

-- the text of one type is accepted
abbrev pub is_type : List ℕ → Bool
is_type text = is_accepted (parse text)

-- definitions are accepted and have the Name
abbrev pub have : Result (List Known) TextFault → List ℕ → Bool
have (Ok definitions) name = is_some (find definitions name)
have (Err fault) name = false

-- so do those of which these are the octets of the text
abbrev pub defines : List ℕ → List ℕ → Bool
defines octets name = if is_utf8 octets then have (parse_all octets) name else false

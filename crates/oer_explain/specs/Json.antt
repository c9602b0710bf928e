-- What is added to the error of JSON.
use Rattle.std.specs.Prelude.{ℕ, List, [], ◌++◌, length, min, Option, Some, None, Result, Ok, Err, codes, if◌then◌else◌}
use Rattle.std.specs.Str.{is_utf8}
use Rattle.std.specs.Str.Lossy.{utf8_valid_len}
use Rattle.serde_json.specs.Data.{Data, string}
use Rattle.serde_json.specs.Data as json
use Rattle.serde_json.specs.Read.{read}
use Rattle.oer_model.specs.AsnType.{AsnType}
use Rattle.oer_model.specs.WellFormed.{names}
use Rattle.oer_notation.specs.Parsing.{parse, parse_all}
use Rattle.oer_notation.specs.Reading.{Known, find}
use Rattle.oer_value_notation.specs.declared.fault.TextFault.{TextFault}
use Rattle.oer_json.specs.declared.fault.JsonFault.{JsonFault}
use Rattle.oer_json.specs.declared.fault.JsonFault.TheVariants.{Name}
use Rattle.oer_json_places.specs.Next.{Wrong, itself, missing_key, unknown_key}
use Rattle.oer_json_places.specs.Place.{Spot, place_of}
use Rattle.oer_explain.specs.JsonNames.{names_shown, near_hint}
use Rattle.oer_explain.specs.JsonPath.{place_line}
use Rattle.oer_explain.specs.JsonWords.{sentence_line, sentence_of, unknown_sentence, wanted_of}
use Rattle.oer_explain.specs.Place.{notes_at}

-- what a text that is no name may mean
abbrev pub text_hint : JsonFault → AsnType → Data → List ℕ
text_hint Name T (json.string s) = near_hint s (names T)
text_hint fault T j = []

-- what is wrong, what is wanted, and what may be meant
abbrev pub wrong_lines : Wrong → JsonFault → AsnType → Data → List ℕ
wrong_lines (unknown_key k) fault T j = sentence_line (unknown_sentence T) (names_shown (names T)) ++ near_hint k (names T)
wrong_lines (missing_key k) fault T j = codes "  the component " ++ (k ++ codes " must be present\n")
wrong_lines itself fault T j = sentence_line (sentence_of fault T) (wanted_of fault T) ++ text_hint fault T j

abbrev pub spot_notes : Spot → List ℕ
spot_notes spot = place_line spot ++ wrong_lines spot.wrong spot.fault spot.type spot.json

abbrev pub notes_by : Option Spot → List ℕ
notes_by None = []
notes_by (Some spot) = spot_notes spot

-- JSON, as a tree, of a value of this type
abbrev pub tree_notes : AsnType → Data → List ℕ
tree_notes T j = notes_by (place_of T j)

-- at: where the JSON reader stopped, if the text isn't JSON
abbrev pub read_notes : ℕ → AsnType → List ℕ → Option Data → List ℕ
read_notes at T text None = notes_at text (min at (length text)) (codes "the JSON reader stopped here") []
read_notes at T text (Some j) = tree_notes T j

-- a text of JSON
abbrev pub text_notes : ℕ → AsnType → List ℕ → List ℕ
text_notes at T text = read_notes at T text (read text)

-- the octets of a text of JSON
abbrev pub json_notes : ℕ → AsnType → List ℕ → List ℕ
json_notes at T octets =
    if is_utf8 octets then text_notes at T octets
    else notes_at octets (min (utf8_valid_len octets) (length octets)) (codes "the text is no UTF-8 from here on") []

-- ---- by the text of the type

-- by the type that a text spells; nothing where it is rejected. octets: those of the JSON
abbrev pub notes_typed : ℕ → Result AsnType TextFault → List ℕ → List ℕ
notes_typed at (Ok T) octets = json_notes at T octets
notes_typed at (Err fault) octets = []

-- types: the text of one type
abbrev pub type_json_notes : ℕ → List ℕ → List ℕ → List ℕ
type_json_notes at types octets = notes_typed at (parse types) octets

abbrev pub notes_found : ℕ → Option AsnType → List ℕ → List ℕ
notes_found at None octets = []
notes_found at (Some T) octets = json_notes at T octets

-- by the type that the Name has among definitions
abbrev pub notes_named : ℕ → Result (List Known) TextFault → List ℕ → List ℕ → List ℕ
notes_named at (Ok definitions) name octets = notes_found at (find definitions name) octets
notes_named at (Err fault) name octets = []

-- types: the octets of a text of definitions
abbrev pub types_json_notes : ℕ → List ℕ → List ℕ → List ℕ → List ℕ
types_json_notes at types name octets = if is_utf8 types then notes_named at (parse_all types) name octets else []

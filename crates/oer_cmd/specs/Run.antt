-- What the program prints.
use Rattle.std.specs.Prelude.{◌≡◌, ◌↔◌, ◌≤◌, Bool, true, false, ℕ, List, [], ◌∷◌, ◌++◌, length, Option, Some, None, Ok, IfSome, codes}
use Rattle.std.specs.Fmt.{decimal}
use Rattle.std.specs.Str.{IsUtf8}
use Rattle.std.specs.Io.KnownBytes.{Appends, Keeps}
use Rattle.hex.specs.Hex.{decode_of, encode_lower}
use Rattle.clap.specs.Words.{Text}
use Rattle.serde_json.specs.Data.{Data}
use Rattle.serde_json.specs.Read.{read}
use Rattle.serde_json.specs.Written.{compact_text}
use Rattle.oer_model.specs.AsnType.{AsnType}
use Rattle.oer_model.specs.AsnValue.{AsnValue}
use Rattle.oer_model.specs.Encoding.{Encodes}
use Rattle.oer_model.specs.Parts.{Step, Within}
use Rattle.oer_model.specs.Strict.{IsCanonical}
use Rattle.oer_parts.specs.Path.{SpellsPath}
use Rattle.oer_json.specs.Denotes.{IsJsonOf}
use Rattle.oer_json.specs.Made.{made}
use Rattle.oer_options.specs.Words.{HasFlags, Kind, NumberOf, Texts, asked, canon, check, given, given_number, kind, make, name_of, part, path_among, path_text, show, source_option, source_text, texts_in}
use Rattle.oer_options.specs.declared.options.Style.{Style}
use Rattle.oer_options.specs.declared.options.Task.{Task}
use Rattle.oer_cmd.specs.Ascii.{ascii_text}
use Rattle.oer_cmd.specs.Types.{SpelledWith}
use Rattle.oer_cmd.specs.declared.value.Form.{Form}
use Rattle.oer_cmd.specs.declared.value.Form.TheVariants as form

-- P holds of the octets: those that `--hex` spells, and without it all that the input had left, where that is known
abbrev pub OfOctets : Option Text → Option (List ℕ) → (List ℕ → Type 0) → Type 0
OfOctets (Some digits) told P = (b : List ℕ) × (decode_of digits ≡ Ok b) × P b
OfOctets None told P = IfSome told P

-- a text, or the same in ASCII
abbrev pub ascii_if : Bool → Text → Text
ascii_if false text = text
ascii_if true text = ascii_text text

-- the text of JSON, without a space, in a style
abbrev pub json_text : Style → Data → Text
json_text style j = ascii_if style.ascii (compact_text j)

-- the line of a value, in this form: its canonical octets, in lower hexadecimal digits, or its JSON
abbrev pub IsInForm : Form → AsnType → AsnValue → Text → Type 0
IsInForm form.Octets T v line = (c : List ℕ) × IsCanonical T v c × (line ≡ encode_lower c)
IsInForm (form.Json style) T v line = line ≡ json_text style (made T v)

-- the line of `show`, or of `canon`, for octets b: that of the value of which b is an encoding, of no more octets than the limit
abbrev pub IsValueLine : Form → AsnType → ℕ → Text → List ℕ → Type 0
IsValueLine f T limit line b = (v : AsnValue) × Encodes T v b × (length b ≤ limit) × IsInForm f T v line

-- b is all of one encoding
abbrev pub IsEncoding : AsnType → List ℕ → Type 0
IsEncoding T b = (v : AsnValue) × Encodes T v b

-- b are the canonical octets of some value
abbrev pub AreCanonical : AsnType → List ℕ → Type 0
AreCanonical T b = (w : AsnValue) × IsCanonical T w b

-- no encoding at the front of b has another length than b
abbrev pub IsNoFront : AsnType → List ℕ → Type 0
IsNoFront T b = (v : AsnValue) (c rest : List ℕ) → b ≡ c ++ rest → Encodes T v c → length c ≡ length b

abbrev pub verdict_text : Bool → ℕ → Text
verdict_text true n = codes "canonical " ++ decimal n
verdict_text false n = codes "basic " ++ decimal n

-- the line of `check` for octets b, which are all of one encoding: how many they are, and whether they are canonical
abbrev pub IsCheckLine : AsnType → ℕ → Text → List ℕ → Type 0
IsCheckLine T limit line b = IsEncoding T b × (length b ≤ limit)
    × ((canonical : Bool) × (line ≡ verdict_text canonical (length b)) × ((canonical ≡ true) ↔ AreCanonical T b))

-- the canonical octets, in lower hexadecimal digits, of a value that fits, for which the text of JSON stands, in UTF-8
abbrev pub Makes : AsnType → Text → List ℕ → Type 0
Makes T line text = IsUtf8 text
    × ((j : Data) × (read text ≡ Some j) × ((v : AsnValue) × IsJsonOf T v j × IsInForm form.Octets T v line))

-- the line of `make` for a text of JSON, of no more octets than the limit
abbrev pub IsMakeLine : AsnType → ℕ → Text → List ℕ → Type 0
IsMakeLine T limit line text = (length text ≤ limit) × Makes T line text

-- P holds of the text: that of `--json`, and without it all that the input had left, where that is known
abbrev pub OfText : Option Text → Option (List ℕ) → (List ℕ → Type 0) → Type 0
OfText (Some text) told P = P text
OfText None told P = IfSome told P

-- the path that the text of `--path` spells; the empty one without it
abbrev pub IsPath : Option Text → List Step → Type 0
IsPath (Some text) path = SpellsPath text path
IsPath None path = path ≡ []

-- the octets to which the path leads in b, in lower hexadecimal digits
abbrev pub IsPart : AsnType → List Step → Text → List ℕ → Type 0
IsPart T path line b = (U : Option AsnType) × (s : List ℕ) × Within (Some T) b path U s × (line ≡ encode_lower s)

-- the line of `part` for octets b, which are all of one encoding
abbrev pub IsPartLine : AsnType → ℕ → Option Text → Text → List ℕ → Type 0
IsPartLine T limit text line b = IsEncoding T b × (length b ≤ limit) × ((path : List Step) × IsPath text path × IsPart T path line b)

-- the line of a kind of task, with this text of octets or of JSON and this one of a path, where the input had these octets left
abbrev pub IsLineBy : Kind → Option Text → Option Text → Option (List ℕ) → AsnType → ℕ → Text → Type 0
IsLineBy (show style) source path told T limit line = OfOctets source told (IsValueLine (form.Json style) T limit line)
IsLineBy canon source path told T limit line = OfOctets source told (IsValueLine form.Octets T limit line)
IsLineBy check source path told T limit line = OfOctets source told (IsCheckLine T limit line)
IsLineBy make source path told T limit line = OfText source told (IsMakeLine T limit line)
IsLineBy part source path told T limit line = OfOctets source told (IsPartLine T limit path line)

-- the line of a task for values of the type
abbrev pub IsLineOf : Task → Option (List ℕ) → AsnType → ℕ → Text → Type 0
IsLineOf task told T limit line = IsLineBy (kind task) (source_text task) (path_text task) told T limit line

-- b may be what the input had left: what it told, or anything where it told nothing
abbrev pub MayBe : Option (List ℕ) → List ℕ → Type 0
MayBe told b = IfSome told (λ xs. b ≡ xs)

-- P holds of no line, whatever the input had left
abbrev pub NoLine : Option (List ℕ) → (Option (List ℕ) → Text → Type 0) → Type 0
NoLine told P = (line : Text) → ((b : List ℕ) → MayBe told b → P (Some b) line) → ⊥

-- the task has no line for the type
abbrev pub NoLineOf : Task → Option (List ℕ) → AsnType → ℕ → Type 0
NoLineOf task told T limit = NoLine told (λ known. IsLineOf task known T limit)

-- the line is that of the task for a type of which P holds
pub record IsLineFor (P : AsnType → Type 0) (task : Task) (limit : ℕ) (told : Option (List ℕ)) (line : Text) : Type 0 where
  pub type : AsnType
  pub spelled : P type
  pub line_is : IsLineOf task told type limit line

-- the line is that of the task for the type that the texts name, with what the input had left
abbrev pub IsLineGiven : Texts → Task → ℕ → Option (List ℕ) → Text → Type 0
IsLineGiven texts task limit told line = IsLineFor (SpelledWith texts (source_text task) told) task limit told line

-- The line that the words ask for, by their options, for values of a type that is given, where the input had these octets left.
-- Options on types count for nothing.
pub record IsLine (T : AsnType) (words : List Text) (told : Option (List ℕ)) (line : Text) : Type 0 where
  pub limit : ℕ
  pub limit_text : Text
  pub limit_is : given_number words (codes "limit") ≡ Some limit_text
  pub number : NumberOf limit_text limit
  pub task : Kind
  pub asks : asked words ≡ Some (name_of task)
  pub flags : HasFlags task (given_number words)
  pub line_is : IsLineBy task (given words (source_option task)) (path_among task (given words)) told T limit line

-- the same for the type that the words name
pub record IsLineAsked (words : List Text) (told : Option (List ℕ)) (line : Text) : Type 0 where
  pub type : AsnType
  pub line_is : IsLine type words told line
  pub spelled : SpelledWith (texts_in words) (given words (source_option line_is.task)) told type

-- no line is what the words ask for, whatever the input had left
abbrev pub NoLineAsked : List Text → Option (List ℕ) → Type 0
NoLineAsked words told = NoLine told (IsLineAsked words)

-- the same for values of a type that is given
abbrev pub NoLineAskedFor : AsnType → List Text → Option (List ℕ) → Type 0
NoLineAskedFor T words told = NoLine told (IsLine T words)

-- the output grew by that line alone, and nothing is on the errors
abbrev pub Prints : List Text → Option (List ℕ) → Option (List ℕ) → Option (List ℕ) → Option (List ℕ) → Option (List ℕ) → Type 0
Prints words told output output' errors errors' =
    (line : Text) × IsLineAsked words told line × Appends output output' (line ++ 10 ∷ []) × Keeps errors errors'

-- the same for values of a type that is given
abbrev pub PrintsFor : AsnType → List Text → Option (List ℕ) → Option (List ℕ) → Option (List ℕ) → Option (List ℕ) → Option (List ℕ) → Type 0
PrintsFor T words told output output' errors errors' =
    (line : Text) × IsLine T words told line × Appends output output' (line ++ 10 ∷ []) × Keeps errors errors'

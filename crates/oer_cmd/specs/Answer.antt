-- The answer of the program as plain functions say it: a line, or a status and a text.
use Rattle.std.specs.Prelude.{◌≡◌, ⊤, ℕ, ◌-◌, List, [], ◌∷◌, ◌++◌, length, leb, Bool, Option, Some, None, Result, Ok, Err, codes, if◌then◌else◌}
use Rattle.std.specs.Str.{is_utf8}
use Rattle.std.specs.Str.Lossy.{utf8_valid_len}
use Rattle.hex.specs.Hex.{decode_of, encode_lower}
use Rattle.hex.specs.declared.error.FromHexError.{FromHexError}
use Rattle.clap.specs.Words.{Text}
use Rattle.serde_json.specs.Data.{Data}
use Rattle.serde_json.specs.Read.{read}
use Rattle.oer_units.specs.Reader.{Outcome, at, got, refused}
use Rattle.oer_model.specs.AsnType.{AsnType}
use Rattle.oer_model.specs.AsnValue.{AsnValue}
use Rattle.oer_model.specs.Canonical.{canonical_octets}
use Rattle.oer_model.specs.Checking.{check_value}
use Rattle.oer_model.specs.Parts as part
use Rattle.oer_model.specs.Parts.{Step, find_part}
use Rattle.oer_model.specs.Reading.{read_value}
use Rattle.oer_checker.specs.Check.{most}
use Rattle.oer_parts.specs.Path.{SpellsPath}
use Rattle.oer_json.specs.Made.{made}
use Rattle.oer_json.specs.Take.{taken}
use Rattle.oer_json.specs.declared.fault.JsonFault.{JsonFault}
use Rattle.oer_notation.specs.Parsing.{parse, parse_all}
use Rattle.oer_notation.specs.Reading.{find}
use Rattle.oer_value_notation.specs.declared.fault.TextFault.{TextFault}
use Rattle.oer_value_notation.specs.declared.fault.TextWhy.TheVariants.{Token}
use Rattle.oer_options.specs.Words.{Texts, behind, source_text, texts_of}
use Rattle.oer_options.specs.declared.options.Options.{Options}
use Rattle.oer_options.specs.declared.options.Task.{Task}
use Rattle.oer_options.specs.declared.options.Task.TheVariants.{Canon, Check, Make, Part, Show}
use Rattle.oer_cmd.specs.Expected.{Expected, refusal, stop, unknown, value, ◌>>=◌}
use Rattle.oer_cmd.specs.Run.{IsPath, json_text, verdict_text}
use Rattle.oer_cmd.specs.Types.{lack_in, reads_types}
use Rattle.oer_cmd.specs.declared.fault.Fault.TheVariants.{Absent, Follows, Hex, Json, Longer, NoSource, NoSuchStep, NotJson, Path, Read, «Type»}
use Rattle.oer_cmd.specs.declared.value.Form.{Form}
use Rattle.oer_cmd.specs.declared.value.Form.TheVariants as form

-- the octets that the digits spell
abbrev pub decoded_as : Result (List ℕ) FromHexError → Expected (List ℕ)
decoded_as (Ok b) = value b
decoded_as (Err e) = stop Hex

abbrev pub digits_octets : Text → Expected (List ℕ)
digits_octets digits = decoded_as (decode_of digits)

-- what the input had left, if it is known
abbrev pub input_octets : Option (List ℕ) → Expected (List ℕ)
input_octets None = unknown
input_octets (Some xs) = value xs

-- the octets of `--hex`, else those of the input
abbrev pub given_octets : Option Text → Option (List ℕ) → Expected (List ℕ)
given_octets (Some digits) told = digits_octets digits
given_octets None told = input_octets told

-- the octets of `--hex`, if it is there
abbrev pub hex_octets : Option Text → Expected (Option (List ℕ))
hex_octets (Some digits) = digits_octets digits >>= λ b. value (Some b)
hex_octets None = value None

abbrev pub within_limit : ℕ → List ℕ → Expected (List ℕ)
within_limit limit b = if leb (length b) limit then value b else stop (Longer limit)

-- the octets in hand, else those of the input: no more than the limit
abbrev pub limited_octets : ℕ → Option (List ℕ) → Option (List ℕ) → Expected (List ℕ)
limited_octets limit (Some b) told = within_limit limit b
limited_octets limit None told = input_octets told >>= within_limit limit

-- what was read is x, with n octets, and these octets follow
abbrev pub ended : {A : Type 0} → ℕ → A → List ℕ → Expected A
ended n x [] = value x
ended n x (y ∷ rest) = stop (Follows n)

-- the octets that follow what took n are none
abbrev pub end_at : ℕ → List ℕ → Expected ⊤
end_at n rest = ended n tt rest

-- what a plain reader makes of the octets b, which have to be all of one encoding
abbrev pub whole : {A : Type 0} → List ℕ → Outcome A → Expected A
whole b (got x q) = ended (length b - length q.input) x q.input
whole b (refused why rest) = stop (Read (record { taken = length b - length rest; why = why }))

-- the value that the octets encode, under the limit
abbrev pub value_read : AsnType → ℕ → List ℕ → Expected AsnValue
value_read T limit b = whole b (read_value T (at b limit))

-- whether the octets are canonical
abbrev pub checked : AsnType → List ℕ → Expected Bool
checked T b = whole b (check_value T (at b most))

-- the canonical octets of that value
abbrev pub canonical_of : AsnType → ℕ → List ℕ → Expected (List ℕ)
canonical_of T limit b = value_read T limit b >>= λ v. value (canonical_octets T v)

-- how octets stand in a line, and how a value does
abbrev pub in_digits : List ℕ → Expected Text
in_digits c = value (encode_lower c)

abbrev pub in_form : Form → AsnType → AsnValue → Expected Text
in_form form.Octets T v = in_digits (canonical_octets T v)
in_form (form.Json style) T v = value (json_text style (made T v))

-- what is made of octets that are no more than the limit
abbrev pub limited : ℕ → (List ℕ → Expected Text) → List ℕ → Expected Text
limited limit next b = within_limit limit b >>= next

abbrev pub check_octets : AsnType → List ℕ → Expected Text
check_octets T b = checked T b >>= λ canonical. value (verdict_text canonical (length b))

abbrev pub handed : part.Answer → Expected Text
handed (part.found U s) = in_digits s
handed part.no_such_step = stop NoSuchStep
handed part.absent_part = stop Absent

abbrev pub part_octets : AsnType → List Step → List ℕ → Expected Text
part_octets T path b = checked T b >>= λ canonical. handed (find_part (Some T) b path)

-- the text of `--json`, else that of the input
abbrev pub given_text : Option Text → Option (List ℕ) → Expected Text
given_text (Some text) told = value text
given_text None told = input_octets told

abbrev pub json_read : Option Data → Expected Data
json_read None = stop NotJson
json_read (Some j) = value j

-- the JSON of a text
abbrev pub json_in : Text → Expected Data
json_in text = json_read (if is_utf8 text then read text else None)

abbrev pub json_taken : Result AsnValue JsonFault → Expected AsnValue
json_taken (Ok v) = value v
json_taken (Err e) = stop (Json e)

abbrev pub make_text : AsnType → Text → Expected Text
make_text T text = json_in text >>= λ j. json_taken (taken T j) >>= λ v. in_digits (canonical_octets T v)

-- the line of the value that the octets encode
abbrev pub value_text : Form → AsnType → ℕ → List ℕ → Expected Text
value_text f T limit b = value_read T limit b >>= in_form f T

abbrev pub value_answer : Form → AsnType → ℕ → Option Text → Option (List ℕ) → Expected Text
value_answer f T limit hex told = given_octets hex told >>= value_text f T limit

abbrev pub check_answer : AsnType → ℕ → Option Text → Option (List ℕ) → Expected Text
check_answer T limit hex told = given_octets hex told >>= limited limit (check_octets T)

-- path: what is expected of the text of `--path`
abbrev pub part_answer : AsnType → ℕ → Option Text → Expected (List Step) → Option (List ℕ) → Expected Text
part_answer T limit hex path told = hex_octets hex >>= λ spelt. path >>= λ steps. limited_octets limit spelt told >>= part_octets T steps

abbrev pub make_answer : AsnType → ℕ → Option Text → Option (List ℕ) → Expected Text
make_answer T limit json told = given_text json told >>= within_limit limit >>= make_text T

abbrev pub task_answer : Task → AsnType → ℕ → Expected (List Step) → Option (List ℕ) → Expected Text
task_answer (Show hex style) T limit path told = value_answer (form.Json style) T limit (behind hex) told
task_answer (Canon hex) T limit path told = value_answer form.Octets T limit (behind hex) told
task_answer (Check hex) T limit path told = check_answer T limit (behind hex) told
task_answer (Make json) T limit path told = make_answer T limit (behind json) told
task_answer (Part hex text) T limit path told = part_answer T limit (behind hex) path told

-- what is expected of a text of `--path`: the path that it spells, or a refusal where it spells none
abbrev pub IsPathOf : Option Text → Expected (List Step) → Type 0
IsPathOf text (value path) = IsPath text path
IsPathOf text (refusal r) = (refusal r ≡ stop {A = List Step} Path) × ((path : List Step) → IsPath text path → ⊥)
IsPathOf text unknown = ⊥

-- The text of `--path` spells a path, or there is none.
abbrev pub HasPath : Option Text → Type 0
HasPath (Some text) = (path : List Step) × SpellsPath text path
HasPath None = ⊤

-- There is a text of `--path`, which spells no path.
abbrev pub HasNoPath : Option Text → Type 0
HasNoPath (Some text) = (path : List Step) → SpellsPath text path → ⊥
HasNoPath None = ⊥

-- what was parsed
abbrev pub parsed : {A : Type 0} → Result A TextFault → Expected A
parsed (Ok x) = value x
parsed (Err e) = stop («Type» e)

-- the type that the Name was found to have
abbrev pub named_as : Text → Option AsnType → Expected AsnType
named_as name (Some T) = value T
named_as name None = refusal (record { status = 2; text = codes "no type " ++ name })

abbrev pub type_among : Option Text → Option Text → Option Text → Expected AsnType
type_among (Some text) None None = parsed (parse text)
type_among None (Some text) (Some name) = parsed (parse_all text) >>= λ definitions. named_as name (find definitions name)
type_among one types name = stop (lack_in one types)

-- the type that the texts name
abbrev pub expected_type : Texts → Expected AsnType
expected_type t = type_among t.one t.types t.name

-- the answer for these texts of a type, and this task
abbrev pub answer_of : Texts → Task → ℕ → Expected (List Step) → Option (List ℕ) → Expected Text
answer_of texts task limit path told = expected_type texts >>= λ T. task_answer task T limit path told

-- The text that octets are. Where they are not UTF-8, no token begins after their longest front that is.
abbrev pub types_text : List ℕ → Expected Text
types_text b = if is_utf8 b then value b else stop («Type» (record { at = utf8_valid_len b; why = Token }))

-- the text of definitions that is read from the input: all that it had left, where the octets or the JSON are given
abbrev pub types_input : Option Text → Option (List ℕ) → Expected Text
types_input None told = stop NoSource
types_input (Some source) told = limited_octets most None told >>= types_text

-- the texts of a type, the text of the definitions read from the input where `--types` is `-`
abbrev pub texts_read : Texts → Option Text → Option (List ℕ) → Expected Texts
texts_read t source told =
    if reads_types t then (types_input source told >>= λ text. value (record t { types = Some text })) else value t

-- the answer for these texts of a type, this task, and what the input had left
abbrev pub given_answer : Texts → Task → ℕ → Expected (List Step) → Option (List ℕ) → Expected Text
given_answer t task limit path told = texts_read t (source_text task) told >>= λ texts. answer_of texts task limit path told

-- the answer to the options
abbrev pub expected_answer : Options → Expected (List Step) → Option (List ℕ) → Expected Text
expected_answer o path told = given_answer (texts_of o) o.task o.limit path told

-- How the program ends: its status, and what stands on its output and its errors.
use Rattle.std.specs.Prelude.{◌≡◌, ◌≢◌, ◌≤◌, ◌⊎◌, ℕ, List, Bool, Option, None, Some, string_bytes, false, true, codes, ⊤}
use Rattle.std.specs.Io.KnownBytes.{Appends, Keeps}
use Rattle.clap.specs.Words.{IsAmong, Text, fault_of, takes}
use Rattle.clap.specs.declared.error.kind.ErrorKind.TheVariants.{DisplayHelp, DisplayVersion}
use Rattle.oer_options.specs.Words.{NumberOf, behind}
use Rattle.oer_cmd.specs.Ending.{IsMachineLine, Streams}
use Rattle.oer_cmd.specs.Expected.{Expected, refusal, unknown, value}
use Rattle.oer_cmd.specs.Faults.{AppendsFront}
use Rattle.oer_cmd.specs.Types.{reads_types}
use Rattle.oer_dump_cmd.specs.Showing.{AreOne, AreOneWith, IsReasonLine, PrintsPage, Rejection, judged_as, octets_as, octets_at}
use Rattle.oer_dump_cmd.specs.Telling.{judged_octets_by}
use Rattle.oer_ends_cmd.specs.declared.telling.Origin.TheVariants.{Modules}
use Rattle.oer_dump_cmd.specs.Words.{Asks, given, given_number, oer_dump, texts_asked, texts_given}
use Rattle.oer_model.specs.AsnType.{AsnType}
use Rattle.oer_dump_cmd.specs.declared.options.Form.{Form}
use Rattle.oer_dump_cmd.specs.declared.options.Options.{Options}

-- Something is on the output, and nothing on the errors, if the octets are one encoding; else the errors have the line of the reason,
-- or a front of it, where they fail.
abbrev pub Answers : Expected Bool → ℕ → Streams → Type 0
Answers unknown status s = ⊤
Answers (value canonical) status s = (status ≡ 0) × ((text : Text) × Appends s.output s.output' text) × Keeps s.errors s.errors'
Answers (refusal r) status s = (status ≡ r.status) × ((line : Text) × IsReasonLine r.text line × AppendsFront s.errors s.errors' line)

-- The machine failed, and the errors say so.
abbrev pub Breaks : ℕ → Streams → Type 0
Breaks status s = (status ≡ 3) × ((line : Text) × IsMachineLine line × AppendsFront s.errors s.errors' line)

-- The errors have the line of the rejection, if there is one, or a front of it, where they fail.
abbrev pub Tells : Rejection → ℕ → Option (List ℕ) → Option (List ℕ) → Type 0
Tells None status errors errors' = (status ≡ 0) × Keeps errors errors'
Tells (Some line) status errors errors' = (status ≡ 1) × AppendsFront errors errors' (string_bytes line)

-- The output has the page of the octets by the type; and nothing, where there are no such octets or no type.
abbrev pub Outputs : Form → Expected (AsnType × List ℕ) → Streams → Type 0
Outputs f unknown s = ⊤
Outputs f (value p) s = PrintsPage f p.0 p.1 s.output s.output'
Outputs f (refusal r) s = Keeps s.output s.output'

-- The words ask for these options, and their answer is given, or the machine failed. Where they have the octets, the input is untouched,
-- unless the text of the definitions is read from it. usual: how many characters a line may have if they don't say
pub record Does (words : List Text) (usual : ℕ) (told : Option (List ℕ)) (untouched : Type 0) (status : ℕ) (s : Streams) : Type 0 where
  pub options : Options
  pub asks : Asks words usual options
  pub answers : Answers (judged_as options told) status s ⊎ Breaks status s
  pub outputs : status ≤ 2 → Outputs options.form (octets_as options told) s
  pub keeps : behind options.hex ≢ None → reads_types (texts_asked options) ≡ false → untouched

-- The words ask for help, or for the version.
abbrev pub AsksForHelp : List Text → Type 0
AsksForHelp words = IsAmong DisplayHelp (fault_of oer_dump words) ⊎ IsAmong DisplayVersion (fault_of oer_dump words)

-- The words are not taken. They ask for help, which is on the output, with status 0, and nothing is on the errors; or
-- the errors say what is wrong with them, with status 2, and nothing is on the output; or the machine failed, and the errors say so.
pub record IsNotTaken (words : List Text) (untouched : Type 0) (status : ℕ) (s : Streams) : Type 0 where
  pub refused : status ≤ 2 → takes oer_dump words ≡ true → ⊥
  pub help : status ≡ 0 → AsksForHelp words × Keeps s.errors s.errors'
  pub said : 1 ≤ status → status ≤ 2 → (status ≡ 2) × Keeps s.output s.output'
  pub machine : status ≡ 3 → Breaks status s
  pub keeps : untouched

abbrev pub streams : Option (List ℕ) → Option (List ℕ) → Option (List ℕ) → Option (List ℕ) → Streams
streams output output' errors errors' = record { output = output; output' = output'; errors = errors; errors' = errors' }

-- What the program does. told: what the input had left, if it is known; untouched: the input is as it was.
abbrev pub Ends : List Text → ℕ → Option (List ℕ) → Type 0 → ℕ → Streams → Type 0
Ends words usual told untouched status s = Does words usual told untouched status s ⊎ IsNotTaken words untouched status s

-- The octets that the words give are one encoding of the type that they name, within the limit that they give.
pub record Accepts (words : List Text) (told : Option (List ℕ)) : Type 0 where
  pub limit : ℕ
  pub limit_text : Text
  pub limit_is : given_number words (codes "limit") ≡ Some limit_text
  pub number : NumberOf limit_text limit
  pub octets : AreOneWith (texts_given words) (given words (codes "hex")) limit told

-- ---- for a type of modules, whatever the options on types say

pub record DoesFor (T : AsnType) (words : List Text) (usual : ℕ) (told : Option (List ℕ)) (untouched : Type 0) (status : ℕ) (s : Streams) : Type 0 where
  pub options : Options
  pub asks : Asks words usual options
  pub answers : Answers (judged_octets_by Modules (behind options.hex) options.limit told T) status s ⊎ Breaks status s
  pub outputs : status ≤ 2 → Outputs options.form (octets_at (behind options.hex) options.limit told T) s
  pub keeps : behind options.hex ≢ None → untouched

abbrev pub EndsFor : AsnType → List Text → ℕ → Option (List ℕ) → Type 0 → ℕ → Streams → Type 0
EndsFor T words usual told untouched status s = DoesFor T words usual told untouched status s ⊎ IsNotTaken words untouched status s

pub record AcceptsFor (T : AsnType) (words : List Text) (told : Option (List ℕ)) : Type 0 where
  pub limit : ℕ
  pub limit_text : Text
  pub limit_is : given_number words (codes "limit") ≡ Some limit_text
  pub number : NumberOf limit_text limit
  pub octets : AreOne T (given words (codes "hex")) limit told

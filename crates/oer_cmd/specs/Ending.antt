-- How the program ends: its status, and what stands on its output and its errors.
use Rattle.std.specs.Prelude.{◌≡◌, ◌≢◌, ◌≤◌, ◌⊎◌, ℕ, List, [], ◌∷◌, ◌++◌, Option, None, false, true, codes, ⊤}
use Rattle.std.specs.Io.KnownBytes.{Appends, Keeps}
use Rattle.clap.specs.Words.{IsAmong, Text, fault_of, takes}
use Rattle.clap.specs.declared.error.kind.ErrorKind.TheVariants.{DisplayHelp, DisplayVersion}
use Rattle.oer_model.specs.AsnType.{AsnType}
use Rattle.oer_model.specs.Parts.{Step}
use Rattle.oer_options.specs.Words.{Asks, oer, path_text, source_text, texts_of}
use Rattle.oer_options.specs.declared.options.Options.{Options}
use Rattle.oer_cmd.specs.Answer.{IsPathOf, expected_answer, task_answer}
use Rattle.oer_cmd.specs.Expected.{Expected, refusal, unknown, value}
use Rattle.oer_cmd.specs.Faults.{AppendsFront, error_line}
use Rattle.oer_cmd.specs.Types.{reads_types}
use Rattle.oer_cmd.specs.declared.fault.Fault.TheVariants.{Input, Memory, Output}

-- what the output and the errors hold before and after, where it is known
pub record Streams : Type 0 where
  pub output : Option (List ℕ)
  pub output' : Option (List ℕ)
  pub errors : Option (List ℕ)
  pub errors' : Option (List ℕ)

abbrev pub streams : Option (List ℕ) → Option (List ℕ) → Option (List ℕ) → Option (List ℕ) → Streams
streams output output' errors errors' = record { output = output; output' = output'; errors = errors; errors' = errors' }

-- the line of a refusal
abbrev pub refusal_line : Text → Text
refusal_line text = codes "oer: " ++ text ++ 10 ∷ []

-- The answer that is expected is given: a line on the output and nothing on the errors; or nothing on the output, and on the errors the
-- line of the refusal, or a front of it, where they fail.
abbrev pub Delivers : Expected Text → ℕ → Streams → Type 0
Delivers unknown status s = ⊤
Delivers (value line) status s = (status ≡ 0) × Appends s.output s.output' (line ++ 10 ∷ []) × Keeps s.errors s.errors'
Delivers (refusal r) status s = (status ≡ r.status) × Keeps s.output s.output' × AppendsFront s.errors s.errors' (refusal_line r.text)

-- the line that is expected, if it is known
abbrev pub MayPrint : Expected Text → Text → Type 0
MayPrint unknown line = ⊤
MayPrint (value x) line = x ≡ line
MayPrint (refusal r) line = ⊥

-- the line of a machine that fails
abbrev pub IsMachineLine : Text → Type 0
IsMachineLine line = (line ≡ error_line Input) ⊎ (line ≡ error_line Output) ⊎ (line ≡ error_line Memory)

-- The output is as it was; or it failed, and grew by a front of the line that is expected.
abbrev pub HoldsFront : Expected Text → Streams → Type 0
HoldsFront expected s =
    Keeps s.output s.output' ⊎ ((line : Text) × MayPrint expected line × AppendsFront s.output s.output' (line ++ 10 ∷ []))

-- The machine failed, and the errors say so.
abbrev pub Breaks : Expected Text → ℕ → Streams → Type 0
Breaks expected status s =
    (status ≡ 3) × HoldsFront expected s × ((line : Text) × IsMachineLine line × AppendsFront s.errors s.errors' line)

-- The answer is given, or the machine failed.
abbrev pub IsEnd : Expected Text → ℕ → Streams → Type 0
IsEnd expected status s = Delivers expected status s ⊎ Breaks expected status s

-- Memory for the words was refused, and the errors say so; all else is as it was.
abbrev pub IsUnstarted : Type 0 → ℕ → Streams → Type 0
IsUnstarted untouched status s =
    (status ≡ 3) × untouched × Keeps s.output s.output' × AppendsFront s.errors s.errors' (error_line Memory)

-- The words ask for these options, and their answer is given, or the machine failed. Where they have the octets or the JSON, the input is
-- untouched, unless the text of the definitions is read from it.
pub record Does (words : List Text) (told : Option (List ℕ)) (untouched : Type 0) (status : ℕ) (s : Streams) : Type 0 where
  pub options : Options
  pub asks : Asks words options
  pub answers : (path : Expected (List Step)) → IsPathOf (path_text options.task) path → IsEnd (expected_answer options path told) status s
  pub keeps : source_text options.task ≢ None → reads_types (texts_of options) ≡ false → untouched

-- The same for values of a type that is given, whatever the options on types say.
pub record DoesFor (T : AsnType) (words : List Text) (told : Option (List ℕ)) (untouched : Type 0) (status : ℕ) (s : Streams) : Type 0 where
  pub options : Options
  pub asks : Asks words options
  pub answers : (path : Expected (List Step)) → IsPathOf (path_text options.task) path
      → IsEnd (task_answer options.task T options.limit path told) status s
  pub keeps : source_text options.task ≢ None → untouched

-- The words ask for help, or for the version.
abbrev pub AsksForHelp : List Text → Type 0
AsksForHelp words = IsAmong DisplayHelp (fault_of oer words) ⊎ IsAmong DisplayVersion (fault_of oer words)

-- The words are not taken. They ask for help, which is on the output, with status 0, and nothing is on the errors; or
-- the errors say what is wrong with them, with status 2, and nothing is on the output; or the machine failed. What is
-- said is not fixed. Of words that are taken nothing but this last holds, and the output is as it was.
pub record IsNotTaken (words : List Text) (untouched : Type 0) (status : ℕ) (s : Streams) : Type 0 where
  pub refused : status ≤ 2 → takes oer words ≡ true → ⊥
  pub help : status ≡ 0 → AsksForHelp words × Keeps s.errors s.errors'
  pub said : 1 ≤ status → status ≤ 2 → (status ≡ 2) × Keeps s.output s.output'
  pub unwritten : takes oer words ≡ true → Keeps s.output s.output'
  pub machine : status ≡ 3 → (line : Text) × IsMachineLine line × AppendsFront s.errors s.errors' line
  pub keeps : untouched

-- What the program does. told: what the input had left, if it is known; untouched: the input is as it was.
abbrev pub Ends : List Text → Option (List ℕ) → Type 0 → ℕ
    → Option (List ℕ) → Option (List ℕ) → Option (List ℕ) → Option (List ℕ) → Type 0
Ends words told untouched status output output' errors errors' =
    let s = streams output output' errors errors' in
    IsUnstarted untouched status s ⊎ Does words told untouched status s ⊎ IsNotTaken words untouched status s

-- The same for values of a type that is given.
abbrev pub EndsFor : AsnType → List Text → Option (List ℕ) → Type 0 → ℕ
    → Option (List ℕ) → Option (List ℕ) → Option (List ℕ) → Option (List ℕ) → Type 0
EndsFor T words told untouched status output output' errors errors' =
    let s = streams output output' errors errors' in
    IsUnstarted untouched status s ⊎ DoesFor T words told untouched status s ⊎ IsNotTaken words untouched status s

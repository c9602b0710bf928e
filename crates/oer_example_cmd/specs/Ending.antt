-- How `oer example` ends: its status, and what stands on its output and its errors.
use Rattle.std.specs.Prelude.{◌≡◌, ◌≤◌, ◌⊎◌, ℕ, List, [], Option, Some, None, codes, nat_lt, true, if◌then◌else◌}
use Rattle.std.specs.Io.KnownBytes.{Keeps}
use Rattle.clap.specs.Words.{IsAmong, Text, fault_of, takes}
use Rattle.clap.specs.declared.error.kind.ErrorKind.TheVariants.{DisplayHelp, DisplayVersion}
use Rattle.oer_model.specs.AsnType.{AsnType}
use Rattle.oer_options.specs.Words.{Texts, texts_of}
use Rattle.oer_cmd.specs.Answer.{expected_type, texts_read}
use Rattle.oer_cmd.specs.Ending.{Breaks, Delivers, IsMachineLine, Streams}
use Rattle.oer_cmd.specs.Expected.{Expected, Refusal, refusal, value, ◌>>=◌}
use Rattle.oer_cmd.specs.Faults.{AppendsFront}
use Rattle.oer_skeleton.specs.Weight.{max_weight}
use Rattle.oer_example_cmd.specs.Line.{wanted_line, wanted_weight}
use Rattle.oer_example_cmd.specs.Wanted.{wanted_of}
use Rattle.oer_example_cmd.specs.Words.{Asks, app}
use Rattle.oer_example_cmd.specs.declared.asked.Asked.{Asked}
use Rattle.oer_example_cmd.specs.declared.wanted.Wanted.{Wanted}

-- The value would have too many parts.
abbrev pub too_long : Refusal
too_long = record { status = 2; text = codes "the value has more than 65536 parts" }

-- The words want all parts and a value that is made up.
abbrev pub both_wanted : Refusal
both_wanted = record { status = 2; text = codes "one of --random and --full" }

-- which value is wanted
abbrev pub expected_wanted : Option Wanted → Expected Wanted
expected_wanted None = refusal both_wanted
expected_wanted (Some wanted) = value wanted

-- the line for a type
abbrev pub example_of : Wanted → AsnType → Expected Text
example_of wanted T = if nat_lt max_weight (wanted_weight wanted T) then refusal too_long else value (wanted_line wanted T)

-- the same for the type that the texts name
abbrev pub named_answer : Wanted → Texts → Expected Text
named_answer wanted t = expected_type t >>= example_of wanted

-- the same where the input had these octets left, for which `--types=-` stands
abbrev pub example_answer : Wanted → Texts → Option (List ℕ) → Expected Text
example_answer wanted t told = texts_read t (Some []) told >>= named_answer wanted

-- what the words ask for, and the same for a type that is given
abbrev pub asked_answer : Asked → Option (List ℕ) → Expected Text
asked_answer asked told = expected_wanted (wanted_of asked.parts asked.seed) >>= λ wanted. example_answer wanted (texts_of asked.options) told

abbrev pub asked_for : Asked → AsnType → Expected Text
asked_for asked T = expected_wanted (wanted_of asked.parts asked.seed) >>= λ wanted. example_of wanted T

-- The answer is given, or the machine failed.
abbrev pub Answers : Expected Text → ℕ → Streams → Type 0
Answers expected status s = Delivers expected status s ⊎ Breaks expected status s

abbrev pub EndsIn : Expected Text → ℕ → Option (List ℕ) → Option (List ℕ) → Option (List ℕ) → Option (List ℕ) → Type 0
EndsIn expected status output output' errors errors' =
    Answers expected status (record { output = output; output' = output'; errors = errors; errors' = errors' })

-- The words ask for this, which is answered.
pub record Does (words : List Text) (told : Option (List ℕ)) (status : ℕ) (s : Streams) : Type 0 where
  pub asked : Asked
  pub asks : Asks words asked
  pub answers : Answers (asked_answer asked told) status s

-- The same for a type that is given, whatever the options on types say.
pub record DoesFor (T : AsnType) (words : List Text) (status : ℕ) (s : Streams) : Type 0 where
  pub asked : Asked
  pub asks : Asks words asked
  pub answers : Answers (asked_for asked T) status s

-- The words ask for help.
abbrev pub AsksForHelp : List Text → Type 0
AsksForHelp words = IsAmong DisplayHelp (fault_of app words) ⊎ IsAmong DisplayVersion (fault_of app words)

-- The words are not taken. They ask for help, which is on the output, with status 0, and nothing is on the errors; or
-- the errors say what is wrong with them, with status 2, and nothing is on the output; or the machine failed. What is
-- said is not fixed.
pub record IsNotTaken (words : List Text) (status : ℕ) (s : Streams) : Type 0 where
  pub refused : status ≤ 2 → takes app words ≡ true → ⊥
  pub help : status ≡ 0 → AsksForHelp words × Keeps s.errors s.errors'
  pub said : 1 ≤ status → status ≤ 2 → (status ≡ 2) × Keeps s.output s.output'
  pub unwritten : takes app words ≡ true → Keeps s.output s.output'
  pub machine : status ≡ 3 → (line : Text) × IsMachineLine line × AppendsFront s.errors s.errors' line

-- What the program does. told: what the input had left, if it is known.
abbrev pub Ends : List Text → Option (List ℕ) → ℕ → Option (List ℕ) → Option (List ℕ) → Option (List ℕ) → Option (List ℕ) → Type 0
Ends words told status output output' errors errors' =
    let s : Streams = record { output = output; output' = output'; errors = errors; errors' = errors' } in
    Does words told status s ⊎ IsNotTaken words status s

-- The same for a type that is given.
abbrev pub EndsFor : AsnType → List Text → ℕ → Option (List ℕ) → Option (List ℕ) → Option (List ℕ) → Option (List ℕ) → Type 0
EndsFor T words status output output' errors errors' =
    let s : Streams = record { output = output; output' = output'; errors = errors; errors' = errors' } in
    DoesFor T words status s ⊎ IsNotTaken words status s

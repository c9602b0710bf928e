-- How `part --at` ends: its status, and what stands on its output and its errors.
use Rattle.std.specs.Prelude.{◌≡◌, ◌≢◌, ◌⊎◌, ℕ, List, false, Option, None}
use Rattle.clap.specs.Words.{Text}
use Rattle.oer_model.specs.AsnType.{AsnType}
use Rattle.oer_options.specs.Words.{Asks, source_text, texts_of}
use Rattle.oer_options.specs.declared.options.Options.{Options}
use Rattle.oer_cmd.specs.Ending.{Breaks, Delivers, IsNotTaken, IsUnstarted, Streams}
use Rattle.oer_cmd.specs.Expected.{Expected}
use Rattle.oer_cmd.specs.Types.{reads_types}
use Rattle.oer_at_cmd.specs.Answer.{modules_answer, options_answer}

-- The answer that is expected is given, or the machine failed.
abbrev pub IsAnswered : Expected Text → ℕ → Streams → Type 0
IsAnswered expected status s = Delivers expected status s ⊎ Breaks expected status s

abbrev pub EndsIn : Expected Text → ℕ → Option (List ℕ) → Option (List ℕ) → Option (List ℕ) → Option (List ℕ) → Type 0
EndsIn expected status output output' errors errors' =
    IsAnswered expected status (record { output = output; output' = output'; errors = errors; errors' = errors' })

-- The words ask for these options, and their answer is given, or the machine failed. Where they have the octets, the input is untouched,
-- unless the text of the definitions is read from it.
pub record Does (names : Text) (words : List Text) (told : Option (List ℕ)) (untouched : Type 0) (status : ℕ) (s : Streams) : Type 0 where
  pub options : Options
  pub asks : Asks words options
  pub answers : IsAnswered (options_answer names options told) status s
  pub keeps : source_text options.task ≢ None → reads_types (texts_of options) ≡ false → untouched

-- The same for a type of modules, whatever the options on types say.
pub record DoesFor (T : AsnType) (names : Text) (words : List Text) (told : Option (List ℕ)) (untouched : Type 0) (status : ℕ) (s : Streams) : Type 0 where
  pub options : Options
  pub asks : Asks words options
  pub answers : IsAnswered (modules_answer T names options told) status s
  pub keeps : source_text options.task ≢ None → untouched

-- What the program does. names: the value of `--at`; words: those without it; told: what the input had left, if it is known; untouched: the
-- input is as it was.
abbrev pub Ends : Text → List Text → Option (List ℕ) → Type 0 → ℕ
    → Option (List ℕ) → Option (List ℕ) → Option (List ℕ) → Option (List ℕ) → Type 0
Ends names words told untouched status output output' errors errors' =
    let s : Streams = record { output = output; output' = output'; errors = errors; errors' = errors' } in
    IsUnstarted untouched status s ⊎ Does names words told untouched status s ⊎ IsNotTaken words untouched status s

-- The same for a type of modules.
abbrev pub EndsFor : AsnType → Text → List Text → Option (List ℕ) → Type 0 → ℕ
    → Option (List ℕ) → Option (List ℕ) → Option (List ℕ) → Option (List ℕ) → Type 0
EndsFor T names words told untouched status output output' errors errors' =
    let s : Streams = record { output = output; output' = output'; errors = errors; errors' = errors' } in
    IsUnstarted untouched status s ⊎ DoesFor T names words told untouched status s ⊎ IsNotTaken words untouched status s

-- How `check --canonical` ends.
use Rattle.std.specs.Prelude.{◌≢◌, ◌⊎◌, ℕ, List, false, Option, None, ◌≡◌}
use Rattle.clap.specs.Words.{Text}
use Rattle.oer_model.specs.AsnType.{AsnType}
use Rattle.oer_model.specs.Parts.{Step}
use Rattle.oer_options.specs.Words.{Asks, path_text, source_text, texts_of}
use Rattle.oer_options.specs.declared.options.Options.{Options}
use Rattle.oer_cmd.specs.Answer.{IsPathOf, expected_answer}
use Rattle.oer_cmd.specs.Ending.{Breaks, Delivers, IsNotTaken, IsUnstarted, Streams}
use Rattle.oer_cmd.specs.Expected.{Expected}
use Rattle.oer_cmd.specs.Types.{reads_types}
use Rattle.oer_ends_cmd.specs.Telling.{modules_answer}
use Rattle.oer_canonical_cmd.specs.Strict.{strict}

-- The answer that is expected is given, or the machine failed.
abbrev pub IsEnded : Expected Text → ℕ → Streams → Type 0
IsEnded expected status s = Delivers expected status s ⊎ Breaks expected status s

-- The words ask for these options, and their answer is given, where octets that aren't canonical are an error; or the machine failed. Where
-- they have the octets, the input is untouched, unless the text of the definitions is read from it.
pub record Does (words : List Text) (told : Option (List ℕ)) (untouched : Type 0) (status : ℕ) (s : Streams) : Type 0 where
  pub options : Options
  pub asks : Asks words options
  pub answers : (path : Expected (List Step)) → IsPathOf (path_text options.task) path
      → IsEnded (strict (expected_answer options path told)) status s
  pub keeps : source_text options.task ≢ None → reads_types (texts_of options) ≡ false → untouched

-- The same for values of a type of modules, whatever the options on types say.
pub record DoesFor (T : AsnType) (words : List Text) (told : Option (List ℕ)) (untouched : Type 0) (status : ℕ) (s : Streams) : Type 0 where
  pub options : Options
  pub asks : Asks words options
  pub answers : (path : Expected (List Step)) → IsPathOf (path_text options.task) path
      → IsEnded (strict (modules_answer options.task T options.limit path told)) status s
  pub keeps : source_text options.task ≢ None → untouched

-- What the program does. told: what the input had left, if it is known; untouched: the input is as it was.
abbrev pub Ends : List Text → Option (List ℕ) → Type 0 → ℕ
    → Option (List ℕ) → Option (List ℕ) → Option (List ℕ) → Option (List ℕ) → Type 0
Ends words told untouched status output output' errors errors' =
    let s : Streams = record { output = output; output' = output'; errors = errors; errors' = errors' } in
    IsUnstarted untouched status s ⊎ Does words told untouched status s ⊎ IsNotTaken words untouched status s

-- The same for values of a type of modules.
abbrev pub EndsFor : AsnType → List Text → Option (List ℕ) → Type 0 → ℕ
    → Option (List ℕ) → Option (List ℕ) → Option (List ℕ) → Option (List ℕ) → Type 0
EndsFor T words told untouched status output output' errors errors' =
    let s : Streams = record { output = output; output' = output'; errors = errors; errors' = errors' } in
    IsUnstarted untouched status s ⊎ DoesFor T words told untouched status s ⊎ IsNotTaken words untouched status s

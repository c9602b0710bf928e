-- How the program ends for a type of modules.
use Rattle.std.specs.Prelude.{◌≢◌, ◌⊎◌, ℕ, List, Bool, true, false, Option, None}
use Rattle.clap.specs.Words.{Text}
use Rattle.oer_model.specs.AsnType.{AsnType}
use Rattle.oer_model.specs.Parts.{Step}
use Rattle.oer_ends.specs.Ends.{has_end}
use Rattle.oer_options.specs.Words.{Asks, path_text, source_text}
use Rattle.oer_options.specs.declared.options.Options.{Options}
use Rattle.oer_cmd.specs.Answer.{IsPathOf}
use Rattle.oer_cmd.specs.Ending.{Breaks, Delivers, EndsFor, IsNotTaken, IsUnstarted, Streams}
use Rattle.oer_cmd.specs.Expected.{Expected}
use Rattle.oer_ends_cmd.specs.Telling.{nested_answer}

-- The words ask for these options, and their answer is given as it is told, or the machine failed. Where they have the octets or the JSON,
-- the input is untouched.
pub record DoesNested (T : AsnType) (words : List Text) (had : Option (List ℕ)) (untouched : Type 0) (status : ℕ) (s : Streams) : Type 0 where
  pub options : Options
  pub asks : Asks words options
  pub answers : (path : Expected (List Step)) → IsPathOf (path_text options.task) path
      → Delivers (nested_answer options.task T options.limit path had) status s ⊎ Breaks (nested_answer options.task T options.limit path had) status s
  pub keeps : source_text options.task ≢ None → untouched

abbrev pub EndsNested : AsnType → List Text → Option (List ℕ) → Type 0 → ℕ
    → Option (List ℕ) → Option (List ℕ) → Option (List ℕ) → Option (List ℕ) → Type 0
EndsNested T words had untouched status output output' errors errors' =
    let s : Streams = record { output = output; output' = output'; errors = errors; errors' = errors' } in
    IsUnstarted untouched status s ⊎ DoesNested T words had untouched status s ⊎ IsNotTaken words untouched status s

-- For a type without an end all is as for one that is given.
abbrev pub EndsBy : Bool → AsnType → List Text → Option (List ℕ) → Type 0 → ℕ
    → Option (List ℕ) → Option (List ℕ) → Option (List ℕ) → Option (List ℕ) → Type 0
EndsBy true T words had untouched status output output' errors errors' = EndsNested T words had untouched status output output' errors errors'
EndsBy false T words had untouched status output output' errors errors' = EndsFor T words had untouched status output output' errors errors'

-- The status, and what stands on the output and the errors, for a type of modules.
abbrev pub EndsForModules : AsnType → List Text → Option (List ℕ) → Type 0 → ℕ
    → Option (List ℕ) → Option (List ℕ) → Option (List ℕ) → Option (List ℕ) → Type 0
EndsForModules T words had untouched status output output' errors errors' =
    EndsBy (has_end T) T words had untouched status output output' errors errors'

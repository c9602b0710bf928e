-- How much of an input is taken, and when it is untouched.
use Rattle.std.specs.Prelude.{◌≡◌, ◌≤◌, ◌⊎◌, ℕ, ◌+◌, ◌-◌, min, MatchBool, List, ◌++◌, length, Option, Some, None, Result, Ok, Err, true, ⊤}
use Rattle.clap.specs.Words.{Text, takes}
use Rattle.oer_units.specs.Reader.{Outcome, at, got, refused}
use Rattle.oer_model.specs.AsnType.{AsnType}
use Rattle.oer_model.specs.Parts.{Step}
use Rattle.oer_model.specs.Reading.{read_value}
use Rattle.oer_options.specs.Words.{Asks, Kind, Texts, canon, kind, oer, path_text, show, source_text, texts_of}
use Rattle.oer_options.specs.declared.options.Options.{Options}
use Rattle.oer_options.specs.declared.options.Task.{Task}
use Rattle.oer_checker.specs.Check.{most}
use Rattle.oer_cmd.specs.Answer.{IsPathOf, expected_type}
use Rattle.oer_cmd.specs.Expected.{Expected, value}
use Rattle.oer_cmd.specs.Faults.{status_of}
use Rattle.oer_cmd.specs.Types.{reads_types}
use Rattle.oer_cmd.specs.declared.fault.Fault.{Fault}

-- the status of the program after this answer
abbrev pub status_after : {A : Type 0} → Result A Fault → ℕ
status_after (Ok x) = 0
status_after (Err fault) = status_of fault

-- Of the octets that the input had left, where they are known, it gave a front, of a length that P allows.
abbrev pub GivesFront : Option (List ℕ) → Option (List ℕ) → (List ℕ → ℕ → Type 0) → Type 0
GivesFront None told' P = ⊤
GivesFront (Some b) None P = ⊥
GivesFront (Some b) (Some rest) P = (t : List ℕ) × (b ≡ t ++ rest) × P b (length t)

-- Of the octets b it gave n: never more than the most, and unless the machine failed as many as P says.
abbrev pub Amounts : ℕ → ℕ → (List ℕ → ℕ → Type 0) → List ℕ → ℕ → Type 0
Amounts most status P b n = (n ≤ most) × (status ≤ 2 → P b n)

-- An octet is looked for.
abbrev pub IsNext : List ℕ → ℕ → Type 0
IsNext b n = n ≡ min 1 (length b)

-- how many of the octets b a plain reader took; and after a value one more, if octets follow it
abbrev pub taken_by : {A : Type 0} → List ℕ → Outcome A → ℕ
taken_by b (got x q) = length b - length q.input + min 1 (length q.input)
taken_by b (refused why rest) = length b - length rest

-- as many as it takes to read a value and to look for an octet after it
abbrev pub IsValue : AsnType → ℕ → List ℕ → ℕ → Type 0
IsValue T limit b n = n ≡ taken_by b (read_value T (at b limit))

-- all, or more than the limit
abbrev pub IsGathered : ℕ → List ℕ → ℕ → Type 0
IsGathered limit b n = min (length b) (limit + 1) ≤ n

abbrev pub GivesValue : AsnType → ℕ → ℕ → Option (List ℕ) → Option (List ℕ) → Type 0
GivesValue T limit status told told' = GivesFront told told' (Amounts (limit + 1) status (IsValue T limit))

-- as many as `gather` takes: all, or more than the limit, and never more than the limit and 4,096
abbrev pub GivesAll : ℕ → ℕ → Option (List ℕ) → Option (List ℕ) → Type 0
GivesAll limit status told told' = GivesFront told told' (Amounts (limit + 4096) status (IsGathered limit))

-- how many octets a task takes at most, and how many it takes
abbrev pub most_taken : Kind → ℕ → ℕ
most_taken (show style) limit = limit + 1
most_taken canon limit = limit + 1
most_taken _ limit = limit + 4096

abbrev pub IsTaken : Kind → AsnType → ℕ → List ℕ → ℕ → Type 0
IsTaken (show style) T limit b n = IsValue T limit b n
IsTaken canon T limit b n = IsValue T limit b n
IsTaken _ T limit b n = IsGathered limit b n

-- The input gave what a task takes of it for values of the type.
abbrev pub GivesTask : Kind → AsnType → ℕ → ℕ → Option (List ℕ) → Option (List ℕ) → Type 0
GivesTask k T limit status told told' = GivesFront told told' (Amounts (most_taken k limit) status (IsTaken k T limit))

-- The input gave what is taken for the type, where there are a type, no octets and no JSON, and a path, if the task has one. Else it is
-- untouched.
abbrev pub GivesIfAsked : Expected AsnType → Option Text → Expected (List Step) → Type 0 → (AsnType → Type 0) → Type 0
GivesIfAsked (value T) None (value path) untouched gives = gives T
GivesIfAsked type source path untouched gives = untouched

-- The input gave all that it had to the text of definitions, where there are octets or JSON. Else it is untouched.
abbrev pub GivesTypes : Option Text → Type 0 → ℕ → Option (List ℕ) → Option (List ℕ) → Type 0
GivesTypes None untouched status told told' = untouched
GivesTypes (Some source) untouched status told told' = GivesAll most status told told'

-- what is taken for these texts of a type, and this task
abbrev pub TakesBy : Texts → Task → ℕ → Type 0 → ℕ → Option (List ℕ) → Option (List ℕ) → Type 0
TakesBy t task limit untouched status told told' = MatchBool (reads_types t)
    (GivesTypes (source_text task) untouched status told told')
    ((path : Expected (List Step)) → IsPathOf (path_text task) path
    → GivesIfAsked (expected_type t) (source_text task) path untouched (λ T. GivesTask (kind task) T limit status told told'))

-- the same for these options
abbrev pub TakesFor : Options → Type 0 → ℕ → Option (List ℕ) → Option (List ℕ) → Type 0
TakesFor o untouched status told told' = TakesBy (texts_of o) o.task o.limit untouched status told told'

-- The same after these words. The input is untouched, too, where they are not taken, or memory for them was refused.
-- told, told': what the input had left before and after, where that is known.
abbrev pub TakesInput : List Text → Type 0 → ℕ → Option (List ℕ) → Option (List ℕ) → Type 0
TakesInput words untouched status told told' = (untouched × (status ≤ 2 → takes oer words ≡ true → ⊥))
    ⊎ ((o : Options) × Asks words o × TakesFor o untouched status told told')

-- The same for values of a type that is given, whatever the options on types say.
abbrev pub TakesFrom : AsnType → List Text → Type 0 → ℕ → Option (List ℕ) → Option (List ℕ) → Type 0
TakesFrom T words untouched status told told' = (untouched × (status ≤ 2 → takes oer words ≡ true → ⊥))
    ⊎ ((o : Options) × Asks words o × ((path : Expected (List Step)) → IsPathOf (path_text o.task) path
    → GivesIfAsked (value T) (source_text o.task) path untouched (λ U. GivesTask (kind o.task) U o.limit status told told')))

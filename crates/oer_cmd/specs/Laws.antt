-- Laws: a line that the plain functions answer is the line of the task, and where they answer none, there is none.
use Rattle.std.specs.Prelude.{◌≡◌, ◌≤◌, ◌<◌, ◌^◌, ℕ, List, length, Option, Some, ⊤}
use Rattle.clap.specs.Words.{Text}
use Rattle.oer_units.specs.Octets.{IsOctets}
use Rattle.oer_model.specs.AsnType.{AsnType}
use Rattle.oer_model.specs.Parts.{Step}
use Rattle.oer_model.specs.WellFormed.{IsWellFormed}
use Rattle.oer_checker.specs.Check.{most}
use Rattle.oer_options.specs.Words.{Texts, path_text}
use Rattle.oer_options.specs.declared.options.Task.{Task}
use Rattle.oer_cmd.specs.Answer.{IsPathOf, given_answer, task_answer}
use Rattle.oer_cmd.specs.Expected.{Expected, refusal, unknown, value}
use Rattle.oer_cmd.specs.Run.{IsLineGiven, IsLineOf, IsPath, NoLine, NoLineOf}

-- The line, of fewer than 2^64 octets, that the plain function of a task answers is the line of the task. The input had the octets b.
abbrev pub TasksTell : Type 0
TasksTell = (T : AsnType) → IsWellFormed T → (task : Task) (limit : ℕ) → limit ≤ most → (b : List ℕ) → IsOctets b
    → (path : List Step) → IsPath (path_text task) path → (line : Text) → length line < 2 ^ 64
    → task_answer task T limit (value path) (Some b) ≡ value line → IsLineOf task (Some b) T limit line

-- a refusal, or an answer that isn't known
abbrev pub HasNoLine : Expected Text → Type 0
HasNoLine unknown = ⊤
HasNoLine (refusal r) = ⊤
HasNoLine (value line) = ⊥

-- the same, whatever is expected of the text of `--path`
abbrev pub NeverAnswers : Option Text → (Expected (List Step) → Expected Text) → Type 0
NeverAnswers text answer = (path : Expected (List Step)) → IsPathOf text path → HasNoLine (answer path)

-- Where the plain function of a task answers no line, the task has none.
abbrev pub TasksRefuse : Type 0
TasksRefuse = (T : AsnType) → IsWellFormed T → (task : Task) (limit : ℕ) → limit ≤ most → (told : Option (List ℕ))
    → NeverAnswers (path_text task) (λ path. task_answer task T limit path told) → NoLineOf task told T limit

-- The same of the type that texts name.
abbrev pub TextsRefuse : Type 0
TextsRefuse = (t : Texts) (task : Task) (limit : ℕ) → limit ≤ most → (told : Option (List ℕ))
    → NeverAnswers (path_text task) (λ path. given_answer t task limit path told) → NoLine told (IsLineGiven t task limit)

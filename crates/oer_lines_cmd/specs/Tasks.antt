-- What is done with each message.
use Rattle.std.specs.Prelude.{ℕ, Bool, true, false, List, Option, Some, None, Result, Ok, Err}
use Rattle.std.specs.Borrow.{Bor}
use Rattle.clap.specs.Words.{Text}
use Rattle.oer_model.specs.AsnType.{AsnType}
use Rattle.oer_model.specs.Parts.{Step}
use Rattle.oer_options.specs.Words.{behind}
use Rattle.oer_options.specs.declared.options.Task.{Task}
use Rattle.oer_options.specs.declared.options.Task.TheVariants as task
use Rattle.oer_cmd.specs.Answer.{digits_octets, task_answer}
use Rattle.oer_cmd.specs.Expected.{Expected, stop, ◌>>=◌}
use Rattle.oer_cmd.specs.declared.fault.Fault.TheVariants.{Longer}
use Rattle.oer_ends_cmd.specs.Telling.{told_answer}
use Rattle.oer_lines_cmd.specs.declared.misuse.Misuse.{Misuse}
use Rattle.oer_lines_cmd.specs.declared.misuse.Misuse.TheVariants.{Hex, Subcommand}
use Rattle.oer_lines_cmd.specs.declared.task.LineTask.{LineTask}
use Rattle.oer_lines_cmd.specs.declared.task.LineTask.TheVariants.{Canon, Check, Part, Show}
use Rattle.oer_lines_cmd.specs.declared.way.Word.{Word}

-- that, unless octets are given
abbrev pub unless_given : Word → Option (Bor Text) → LineTask → Result LineTask Misuse
unless_given word None t = Ok t
unless_given word (Some digits) t = Err (Hex word)

-- what a task does with each message, or why it can't
abbrev pub line_task : Word → Task → Result LineTask Misuse
line_task word (task.Show hex style) = unless_given word hex (Show style)
line_task word (task.Canon hex) = unless_given word hex Canon
line_task word (task.Check hex) = unless_given word hex Check
line_task word (task.Make json) = Err (Subcommand word)
line_task word (task.Part hex path) = unless_given word hex (Part path)

-- the text of `--path`
abbrev pub path_of : LineTask → Option Text
path_of (Part path) = behind path
path_of _ = None

-- the task on the octets of standard input
abbrev pub on_input : LineTask → Task
on_input (Show style) = task.Show None style
on_input Canon = task.Canon None
on_input Check = task.Check None
on_input (Part path) = task.Part None path

-- The answer to a message of these octets: that of a run that has them on standard input.
abbrev pub octets_answer : LineTask → AsnType → ℕ → Expected (List Step) → List ℕ → Expected Text
octets_answer task T limit path b = task_answer (on_input task) T limit path (Some b)

-- The same as it is told: for a type of modules that has an end (oer_ends), a refusal of octets that nest deeper says so.
abbrev pub octets_told : Bool → LineTask → AsnType → ℕ → Expected (List Step) → List ℕ → Expected Text
octets_told false task T limit path b = octets_answer task T limit path b
octets_told true task T limit path b = told_answer T limit b (octets_answer task T limit path b)

-- The answer to a message longer than the limit, whatever its octets are: the path is looked at first.
abbrev pub long_answer : LineTask → ℕ → Expected (List Step) → Expected Text
long_answer (Part text) limit path = path >>= λ steps. stop (Longer limit)
long_answer task limit path = stop (Longer limit)

-- The answer to a message in digits, as it is told: that to the octets that they spell.
abbrev pub answer_told : Bool → LineTask → AsnType → ℕ → Expected (List Step) → Text → Expected Text
answer_told nests task T limit path digits = digits_octets digits >>= octets_told nests task T limit path

-- How the program ends where it is asked for many messages: its status, and what stands on its output and its errors.
use Rattle.std.specs.Prelude.{◌≡◌, ◌⊎◌, ℕ, Bool, false, List, [], ◌∷◌, ◌++◌, Option, Ok, Err, IfSome, if◌then◌else◌}
use Rattle.std.specs.Io.KnownBytes.{Keeps}
use Rattle.clap.specs.Words.{Text}
use Rattle.oer_model.specs.AsnType.{AsnType}
use Rattle.oer_model.specs.Parts.{Step}
use Rattle.oer_ends.specs.Ends.{has_end}
use Rattle.oer_options.specs.Words.{Asks, Texts, texts_of}
use Rattle.oer_options.specs.declared.options.Options.{Options}
use Rattle.oer_cmd.specs.Answer.{IsPathOf, expected_type}
use Rattle.oer_cmd.specs.Ending.{IsMachineLine, IsNotTaken, IsUnstarted, Streams, refusal_line}
use Rattle.oer_cmd.specs.Expected.{Expected, refusal, stop, unknown, value}
use Rattle.oer_cmd.specs.Faults.{AppendsFront}
use Rattle.oer_cmd.specs.Types.{reads_types}
use Rattle.oer_cmd.specs.declared.fault.Fault.TheVariants.{NoSource}
use Rattle.oer_lines_cmd.specs.Answers.{Answered, AppendsFronts, Numbered, answers, error_lines, output_of}
use Rattle.oer_lines_cmd.specs.Errors.{misuse_line}
use Rattle.oer_lines_cmd.specs.Tasks.{line_task, path_of}
use Rattle.oer_lines_cmd.specs.Ways.{word_of}
use Rattle.oer_lines_cmd.specs.declared.misuse.Misuse.{Misuse}
use Rattle.oer_lines_cmd.specs.declared.task.LineTask.{LineTask}
use Rattle.oer_lines_cmd.specs.declared.way.Way.{Way}

-- The machine failed behind some of the answers, of which the errors tell, and then of that. The output grew by a front of what it should.
pub record Fails (xs : List Numbered) (status : ℕ) (s : Streams) : Type 0 where
  pub done : List Numbered
  pub left : List Numbered
  pub split : xs ≡ done ++ left
  pub three : status ≡ 3
  pub output : AppendsFront s.output s.output' (output_of xs)
  pub line : Text
  pub machine : IsMachineLine line
  pub errors : AppendsFronts s.errors s.errors' (error_lines done ++ line ∷ [])

-- All messages are answered, or the machine failed.
abbrev pub EndsWith : List Numbered → ℕ → Streams → Type 0
EndsWith xs status s = Answered xs (Ok status) s ⊎ Fails xs status s

-- The octets that the input had left, which it gave where they aren't known, and their messages, each answered as this task is. way: how
-- they stand there; nests: whether it is told that octets nest deeper than the type is written out.
pub record Runs (way : Way) (nests : Bool) (task : LineTask) (T : AsnType) (limit : ℕ) (told : Option (List ℕ)) (status : ℕ) (s : Streams)
    : Type 0 where
  pub octets : List ℕ
  pub given : IfSome told (λ xs. xs ≡ octets)
  pub ends : (path : Expected (List Step)) → IsPathOf (path_of task) path
      → EndsWith (answers way nests task T limit path octets) status s

-- Nothing is on the output, and on the errors this line, or a front of it, where they fail.
abbrev pub Rejects : Text → ℕ → Streams → Type 0
Rejects line status s = (status ≡ 2) × Keeps s.output s.output' × AppendsFront s.errors s.errors' line

-- The machine failed before the first message.
abbrev pub IsBroken : ℕ → Streams → Type 0
IsBroken status s = (status ≡ 3) × Keeps s.output s.output' × ((line : Text) × IsMachineLine line × AppendsFront s.errors s.errors' line)

-- The task can't be done with each message, and the input is as it was.
abbrev pub Misuses : Misuse → Type 0 → ℕ → Streams → Type 0
Misuses m untouched status s = untouched × Rejects (misuse_line m) status s

-- The words ask for these options, and what they ask for is done with each message, or it is said why it can't be.
pub record DoesFor (way : Way) (T : AsnType) (words : List Text) (told : Option (List ℕ)) (untouched : Type 0) (status : ℕ) (s : Streams)
    : Type 0 where
  pub options : Options
  pub asks : Asks words options
  pub does : ((m : Misuse) × (line_task (word_of way) options.task ≡ Err m) × Misuses m untouched status s)
      ⊎ ((task : LineTask) × (line_task (word_of way) options.task ≡ Ok task) × Runs way (has_end T) task T options.limit told status s)

-- the type that the texts name; the input, which has the messages, has no text of definitions
abbrev pub lines_type : Texts → Expected AsnType
lines_type t = if reads_types t then stop NoSource else expected_type t

-- The messages are of the type that is expected; or that is refused, or memory ran out, and the input is as it was.
abbrev pub RunsBy : Way → Expected AsnType → LineTask → ℕ → Option (List ℕ) → Type 0 → ℕ → Streams → Type 0
RunsBy way unknown task limit told untouched status s = ⊥
RunsBy way (refusal r) task limit told untouched status s =
    untouched × (((status ≡ r.status) × Keeps s.output s.output' × AppendsFront s.errors s.errors' (refusal_line r.text)) ⊎ IsBroken status s)
RunsBy way (value T) task limit told untouched status s = Runs way false task T limit told status s ⊎ (untouched × IsBroken status s)

-- The same, where the words name the type.
pub record Does (way : Way) (words : List Text) (told : Option (List ℕ)) (untouched : Type 0) (status : ℕ) (s : Streams) : Type 0 where
  pub options : Options
  pub asks : Asks words options
  pub does : ((m : Misuse) × (line_task (word_of way) options.task ≡ Err m) × Misuses m untouched status s)
      ⊎ ((task : LineTask) × (line_task (word_of way) options.task ≡ Ok task)
      × RunsBy way (lines_type (texts_of options)) task options.limit told untouched status s)

-- What the program does with messages of a type that is given. told: what the input had left, if it is known; untouched: the input is as it
-- was.
abbrev pub EndsFor : Way → AsnType → List Text → Option (List ℕ) → Type 0 → ℕ
    → Option (List ℕ) → Option (List ℕ) → Option (List ℕ) → Option (List ℕ) → Type 0
EndsFor way T words told untouched status output output' errors errors' =
    let s : Streams = record { output = output; output' = output'; errors = errors; errors' = errors' } in
    IsUnstarted untouched status s ⊎ DoesFor way T words told untouched status s ⊎ IsNotTaken words untouched status s

-- The same of the type that the words name.
abbrev pub Ends : Way → List Text → Option (List ℕ) → Type 0 → ℕ
    → Option (List ℕ) → Option (List ℕ) → Option (List ℕ) → Option (List ℕ) → Type 0
Ends way words told untouched status output output' errors errors' =
    let s : Streams = record { output = output; output' = output'; errors = errors; errors' = errors' } in
    IsUnstarted untouched status s ⊎ Does way words told untouched status s ⊎ IsNotTaken words untouched status s

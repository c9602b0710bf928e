-- The answer to octets, and how it is told.
use Rattle.std.proofs.Common.{Result, ◌≡◌, ◌∙◌, ℕ, Bool, true, false, Option, Some, Ok, Err, List, refl, sym, ap, subst, String, Global}
use Rattle.clap.specs.Words.{Text}
use Rattle.oer_model.specs.AsnType.{AsnType}
use Rattle.oer_model.specs.Parts.{Step}
use Rattle.oer_options.specs.Words.{path_text}
use Rattle.oer_options.specs.declared.options.Task.{Task}
use Rattle.oer_cmd.specs.Answer.{IsPathOf, task_answer}
use Rattle.oer_cmd.specs.Expected.{Expected, Meets, refusal, unknown, value}
use Rattle.oer_cmd.specs.declared.fault.Fault.{Fault}
use Rattle.oer_cmd.proofs.Meeting.{bytes}
use Rattle.oer_ends_cmd.specs.Telling.{IsFaultTold, told, told_answer}
use Rattle.oer_lines_cmd.specs.Tasks.{octets_answer, octets_told, on_input, path_of}
use Rattle.oer_lines_cmd.specs.declared.task.LineTask.{LineTask}
use Rattle.oer_lines_cmd.specs.declared.task.LineTask.TheVariants.{Part}

path_same : (task : LineTask) → path_text (on_input task) ≡ path_of task
path_same (Part text) = refl
path_same _ = refl

-- the answer to the task on octets of the input
pub of_task : (task : LineTask) (made : Task) (T : AsnType) (limit made_limit : ℕ) (b : List ℕ) (told : Option (List ℕ)) (result : Result (String Global) Fault)
    → made ≡ on_input task → made_limit ≡ limit → told ≡ Some b
    → ((path : Expected (List Step)) → IsPathOf (path_text made) path → Meets bytes (task_answer made T made_limit path told) result)
    → (path : Expected (List Step)) → IsPathOf (path_of task) path → Meets bytes (octets_answer task T limit path b) result
of_task task made T limit made_limit b told result is same all h path of =
    let here = h path (subst (λ t. IsPathOf t path) (sym (ap path_text is ∙ path_same task)) of) in
    let e : task_answer made T made_limit path told ≡ octets_answer task T limit path b =
    ap (λ t. task_answer t T made_limit path told) is
    ∙ ap (λ n. task_answer (on_input task) T n path told) same
    ∙ ap (λ k. task_answer (on_input task) T limit path k) all in
    subst (λ o. Meets bytes o result) e here

line_by : (T : AsnType) (limit : ℕ) (b : List ℕ) (answer : Expected Text) (line : String Global) → Meets bytes answer (Ok line)
    → Meets bytes (told_answer T limit b answer) (Ok line)
line_by T limit b unknown line h = tt
line_by T limit b (refusal r) line h = absurd h
line_by T limit b (value y) line h = h

fault_by : (T : AsnType) (limit : ℕ) (b : List ℕ) (answer : Expected Text) (fault other : Fault) → Meets {X = String Global} bytes answer (Err fault)
    → IsFaultTold T limit b fault other → Meets {X = String Global} bytes (told_answer T limit b answer) (Err other)
fault_by T limit b unknown fault other h tells = tt
fault_by T limit b (value y) fault other h tells = λ small. h (tells.stays small)
fault_by T limit b (refusal r) fault other h tells = λ small. tells.tells small ∙ ap (told T limit b) (h (tells.stays small))

module _ (nests : Bool) (task : LineTask) (T : AsnType) (limit : ℕ) (path : Expected (List Step)) (b : List ℕ) where
  -- A line is told as it is.
  pub line_told : (line : String Global) → Meets bytes (octets_answer task T limit path b) (Ok line) → Meets bytes (octets_told nests task T limit path b) (Ok line)
  line_told line h = at nests where
    at : (n : Bool) → Meets bytes (octets_told n task T limit path b) (Ok line)
    at false = h
    at true = line_by T limit b (octets_answer task T limit path b) line h

  -- So is a fault where nothing is told of nesting.
  pub fault_same : (fault : Fault) → nests ≡ false → Meets {X = String Global} bytes (octets_answer task T limit path b) (Err fault)
      → Meets {X = String Global} bytes (octets_told nests task T limit path b) (Err fault)
  fault_same fault is h = subst (λ (n : Bool). Meets {X = String Global} bytes (octets_told n task T limit path b) (Err fault)) (sym is) h

  -- Elsewhere it is told of the octets.
  pub fault_told : (fault other : Fault) → nests ≡ true → Meets {X = String Global} bytes (octets_answer task T limit path b) (Err fault)
      → IsFaultTold T limit b fault other → Meets {X = String Global} bytes (octets_told nests task T limit path b) (Err other)
  fault_told fault other is h tells = subst (λ (n : Bool). Meets {X = String Global} bytes (octets_told n task T limit path b) (Err other)) (sym is)
      (fault_by T limit b (octets_answer task T limit path b) fault other h tells)

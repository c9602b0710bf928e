-- How it is told that octets nest deeper than a type is written out.
use Rattle.std.specs.Prelude.{◌≡◌, ◌≤◌, ℕ, Bool, true, false, eqb, leb, ◌&&◌, List, length, Option, Some, None, if◌then◌else◌}
use Rattle.clap.specs.Words.{Text}
use Rattle.oer_model.specs.AsnType.{AsnType}
use Rattle.oer_model.specs.Parts.{Step}
use Rattle.oer_ends.specs.Ends.{has_end}
use Rattle.oer_ends.specs.Nests.{nests_at}
use Rattle.oer_options.specs.Words.{source_text}
use Rattle.oer_options.specs.declared.options.Task.{Task}
use Rattle.oer_options.specs.declared.options.Task.TheVariants.{Make}
use Rattle.oer_cmd.specs.Answer.{digits_octets, limited_octets, task_answer}
use Rattle.oer_cmd.specs.Expected.{Expected, Refusal, refusal, refusal_of, unknown, value, ◌>>=◌}
use Rattle.oer_cmd.specs.Faults.{status_of}
use Rattle.oer_cmd.specs.declared.fault.Fault.{Fault}
use Rattle.oer_cmd.specs.declared.fault.Fault.TheVariants.{Nesting}
use Rattle.oer_ends_cmd.specs.declared.telling.Origin.{Origin}
use Rattle.oer_ends_cmd.specs.declared.telling.Origin.TheVariants.{Modules, Notation}

-- a refusal of octets that nest too deep after so many, if they do
abbrev pub at_place : Refusal → Option ℕ → Refusal
at_place r None = r
at_place r (Some n) = refusal_of (Nesting n)

-- A refusal as it is told of the octets b: that they nest deeper than T is written out, if they are rejected, are no more than the limit, and
-- do; else the refusal itself.
abbrev pub told : AsnType → ℕ → List ℕ → Refusal → Refusal
told T limit b r = if eqb r.status 1 && leb (length b) limit then at_place r (nests_at T b) else r

-- an answer on the octets b, as it is told
abbrev pub told_answer : {A : Type 0} → AsnType → ℕ → List ℕ → Expected A → Expected A
told_answer T limit b unknown = unknown
told_answer T limit b (value x) = value x
told_answer T limit b (refusal r) = refusal (told T limit b r)

-- A fault as it is told. Where the machine fails, that is told; and where memory is refused, too.
pub record IsFaultTold (T : AsnType) (limit : ℕ) (b : List ℕ) (fault other : Fault) : Type 0 where
  pub fails : 3 ≤ status_of fault → other ≡ fault
  pub tells : status_of other ≤ 2 → refusal_of other ≡ told T limit b (refusal_of fault)
  pub stays : status_of other ≤ 2 → status_of fault ≤ 2

-- The octets that a task is about: those of `--hex`, else all that the input had left, no more than the limit.
abbrev pub octets_in_hand : Option Text → ℕ → Option (List ℕ) → Expected (List ℕ)
octets_in_hand (Some digits) limit had = digits_octets digits
octets_in_hand None limit had = limited_octets limit None had

-- the answer of a task on the octets in hand, as it is told
abbrev pub answer_in_hand : Task → AsnType → ℕ → Expected (List Step) → Expected (List ℕ) → Expected Text
answer_in_hand task T limit path octets = octets >>= λ b. told_answer T limit b (task_answer task T limit path (Some b))

-- The answer of a task for a type that has an end, where the input had these octets left, as it is told.
abbrev pub nested_answer : Task → AsnType → ℕ → Expected (List Step) → Option (List ℕ) → Expected Text
nested_answer (Make json) T limit path had = task_answer (Make json) T limit path had
nested_answer task T limit path had = answer_in_hand task T limit path (octets_in_hand (source_text task) limit had)

abbrev pub answer_by : Bool → Task → AsnType → ℕ → Expected (List Step) → Option (List ℕ) → Expected Text
answer_by true task T limit path had = nested_answer task T limit path had
answer_by false task T limit path had = task_answer task T limit path had

-- The answer of a task for a type of modules.
abbrev pub modules_answer : Task → AsnType → ℕ → Expected (List Step) → Option (List ℕ) → Expected Text
modules_answer task T limit path had = answer_by (has_end T) task T limit path had

-- ---- by where the type is from

abbrev pub told_by : {A : Type 0} → Origin → AsnType → ℕ → List ℕ → Expected A → Expected A
told_by Notation T limit b answer = answer
told_by Modules T limit b answer = told_answer T limit b answer

abbrev pub IsFaultToldBy : Origin → AsnType → ℕ → List ℕ → Fault → Fault → Type 0
IsFaultToldBy Notation T limit b fault other = other ≡ fault
IsFaultToldBy Modules T limit b fault other = IsFaultTold T limit b fault other

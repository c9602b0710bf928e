-- Where the input is asked, what it gives then, and where it is untouched.
use Rattle.std.proofs.Common.{◌≡◌, ℕ, ◌+◌, ◌≤◌, List, [], Option, Some, None, refl}
use Rattle.clap.specs.Words.{Text}
use Rattle.oer_model.specs.AsnType.{AsnType}
use Rattle.oer_model.specs.Parts.{Step}
use Rattle.oer_options.specs.Words.{Kind, kind, path_text, source_text, texts_of}
use Rattle.oer_options.specs.declared.options.Options.{Options}
use Rattle.oer_options.specs.declared.options.Task.{Task}
use Rattle.oer_cmd.specs.Answer.{HasNoPath, HasPath, IsPathOf, expected_type}
use Rattle.oer_cmd.specs.Expected.{Expected, refusal, stop, unknown, value}
use Rattle.oer_cmd.specs.Faults.{status_of}
use Rattle.oer_cmd.specs.Taking.{GivesIfAsked, GivesTask, GivesTypes, IsGathered, TakesFor, IsTaken, most_taken}
use Rattle.oer_cmd.specs.Types.{reads_types}
use Rattle.oer_checker.specs.Check.{most}
use Rattle.oer_cmd.specs.declared.fault.Fault.{Fault}
use Rattle.oer_cmd.proofs.Taking.{later, untaken}
use Rattle.oer_cmd.proofs.Choices.{either}

-- A task on what the input has: by the path that its text spells, if there is a text.
pub asked : (T : AsnType) (source text : Option Text) (path : Expected (List Step)) (untouched : Type 0) (gives : AsnType → Type 0)
    → source ≡ None
    → (HasPath text → gives T) → (HasNoPath text → untouched) → IsPathOf text path → GivesIfAsked (value T) source path untouched gives
asked T None (Some text) (value p) untouched gives none there other of = there (p, of)
asked T None None (value p) untouched gives none there other of = there tt
asked T None (Some text) (refusal r) untouched gives none there other of = other of.1
asked T None None (refusal r) untouched gives none there other of = absurd (of.1 [] refl)
asked T None text unknown untouched gives none there other of = absurd of
asked T (Some t) text path untouched gives none there other of = absurd (cc)

-- A task whose octets or JSON are given.
pub unasked : (T : AsnType) (source : Option Text) (text : Text) (path : Expected (List Step)) (untouched : Type 0) (gives : AsnType → Type 0)
    → source ≡ Some text → untouched → GivesIfAsked (value T) source path untouched gives
unasked T (Some t) text path untouched gives some same = same
unasked T None text path untouched gives some same = absurd (cc)

-- No type was found, or the machine failed: the input is untouched, and gave nothing.
pub lost : (type : Expected AsnType) (source : Option Text) (path : Expected (List Step)) (untouched : Type 0) (k : Kind) (limit : ℕ)
    (told : Option (List ℕ)) (fault : Fault) → untouched → (status_of fault ≤ 2 → type ≡ stop fault)
    → GivesIfAsked type source path untouched (λ T. GivesTask k T limit (status_of fault) told told)
lost (value T) None (value path) untouched k limit told fault same none =
    untaken (most_taken k limit) (status_of fault) (IsTaken k T limit) told (λ small. let no = none small in cc)
lost type source path untouched k limit told fault same none = same

-- ---- what is left unsaid at a later status

pub asked_later : (type : Expected AsnType) (task : Task) (limit status status' : ℕ) (told told' : Option (List ℕ)) (untouched : Type 0)
    → (status' ≤ 2 → status ≤ 2)
    → ((path : Expected (List Step)) → IsPathOf (path_text task) path
    → GivesIfAsked type (source_text task) path untouched (λ T. GivesTask (kind task) T limit status told told'))
    → (path : Expected (List Step)) → IsPathOf (path_text task) path
    → GivesIfAsked type (source_text task) path untouched (λ T. GivesTask (kind task) T limit status' told told')
asked_later type task limit status status' told told' untouched less h path of = by type (source_text task) path (h path of) where
  by : (type : Expected AsnType) (source : Option Text) (path : Expected (List Step))
      → GivesIfAsked type source path untouched (λ T. GivesTask (kind task) T limit status told told')
      → GivesIfAsked type source path untouched (λ T. GivesTask (kind task) T limit status' told told')
  by (value T) None (value p) h = later (most_taken (kind task) limit) status status' (IsTaken (kind task) T limit) told told' less h
  by type source path h = h

pub for_later : (o : Options) (untouched : Type 0) (status status' : ℕ) (told told' : Option (List ℕ)) → (status' ≤ 2 → status ≤ 2)
    → TakesFor o untouched status told told' → TakesFor o untouched status' told told'
for_later o untouched status status' told told' less h = either (reads_types (texts_of o)) (by (source_text o.task))
    (asked_later (expected_type (texts_of o)) o.task o.limit status status' told told' untouched less) h where
      by : (source : Option Text) → GivesTypes source untouched status told told' → GivesTypes source untouched status' told told'
      by None h = h
      by (Some text) h = later (most + 4096) status status' (IsGathered most) told told' less h

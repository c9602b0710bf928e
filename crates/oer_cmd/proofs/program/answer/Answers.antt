use Rattle.std.proofs.Common.{◌≡◌, ◌≢◌, ◌∙◌, ℕ, List, Option, None, Result, String, Global, false, ap, refl, string_bytes, subst, sym}
use Rattle.std.specs.Prelude.{IfOk}
use Rattle.oer_model.specs.Parts.{Step}
use Rattle.oer_options.specs.Words.{Texts, kind, path_text, source_text, texts_of}
use Rattle.oer_options.specs.declared.options.Task.{Task}
use Rattle.oer_cmd.specs.Answer.{IsPathOf, expected_type, given_answer}
use Rattle.oer_cmd.specs.Expected.{Expected, Meets}
use Rattle.oer_cmd.specs.Run.{IsLineGiven}
use Rattle.oer_cmd.specs.Taking.{TakesBy, status_after}
use Rattle.oer_cmd.specs.Types.{reads_types, texts_at}
use Rattle.oer_cmd.specs.declared.fault.Fault.{Fault}
use Rattle.oer_cmd.proofs.Asking.{lost}
use Rattle.oer_cmd.proofs.Choices.{failing}
use Rattle.oer_cmd.proofs.Meeting.{bytes, left}
use Rattle.oer_cmd.proofs.program.answer.Goals as goal

-- what is promised by these texts of a type
abbrev Promised : Task → ℕ → Option (List ℕ) → Option (List ℕ) → Type 0 → Result (String Global) Fault → Texts → Type 0
Promised task limit told told' untouched result t = IfOk result (λ line. IsLineGiven t task limit told (string_bytes line))
    × ((path : Expected (List Step)) → IsPathOf (path_text task) path → Meets bytes (given_answer t task limit path told) result)
    × (source_text task ≢ None → reads_types t ≡ false → untouched) × TakesBy t task limit untouched (status_after result) told told'

same_texts : (task : Task) (limit : ℕ) (told told' : Option (List ℕ)) (untouched : Type 0) (result : Result (String Global) Fault) (t u : Texts) → t ≡ u
    → Promised task limit told told' untouched result t → Promised task limit told told' untouched result u
same_texts task limit told told' untouched result t u is h = subst (λ x. Promised task limit told told' untouched result x) is h

pub returns-in_err-text-clause-takes : goal.returns-in_err-text-clause-takes
returns-in_err-text-clause-takes g c =
    rw (left c.from_residual.result _ c.from_residual.ensures.1) (failing (reads_types (texts_of c.args.options)) _ _ c.in_err-text.ensures.unread
    (λ path of. lost (expected_type (texts_of c.args.options)) (source_text c.args.options.task) path _ (kind c.args.options.task) c.args.options.limit _ _
    refl (λ small. c.in_err-text.ensures.lacking)))

pub returns-in-One : goal.returns-in-One
returns-in-One g c =
    let l = c.line_of_one.ensures in
    let p = same_texts c.args.options.task c.args.options.limit _ _ _ c.line_of_one.result _ (texts_of c.args.options)
    (ap texts_at (sym c.in-One.is) ∙ c.in_ok-text.ensures.named) (l.line, l.exact, (λ some own. l.untouched some), l.takes) in
    record { line = p.0; exact = p.1; untouched = p.2; takes = p.3 }

pub returns-in-Named : goal.returns-in-Named
returns-in-Named g c =
    let l = c.line_of_types.ensures in
    let p = same_texts c.args.options.task c.args.options.limit _ _ _ c.line_of_types.result _ (texts_of c.args.options)
    (ap texts_at (sym c.in-Named.is) ∙ c.in_ok-text.ensures.named) (l.line, l.exact, l.untouched, l.takes) in
    record { line = p.0; exact = p.1; untouched = p.2; takes = p.3 }

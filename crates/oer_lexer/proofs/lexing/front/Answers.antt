use Rattle.std.proofs.Common.{sym, ◌∙◌, ap, subst}
use Rattle.oer_lexer.specs.Lexing.{step_at}
use Rattle.oer_lexer.proofs.Boundaries.{Cuts, boundary, step_cuts}
use Rattle.oer_lexer.proofs.lexing.front.Goals as goal

pub before-requires : goal.before-requires
before-requires c = boundary _ c.args.text.now c.utf8.text (step_cuts c.args.text.now _ (ap step_at (sym c.as_bytes.ensures.value) ∙ sym c.in-Take.ensures))

pub returns-in-Skip-clause-boundary : goal.returns-in-Skip-clause-boundary
returns-in-Skip-clause-boundary c = boundary _ c.args.text.now c.utf8.text (step_cuts c.args.text.now _ (ap step_at (sym c.as_bytes.ensures.value) ∙ sym c.in-Skip.ensures))

pub returns-in-Skip-clause-some : goal.returns-in-Skip-clause-some
returns-in-Skip-clause-some c = let k = step_cuts c.args.text.now _ (ap step_at (sym c.as_bytes.ensures.value) ∙ sym c.in-Skip.ensures) in (k.some, k.within)

pub returns-in-Take-clause-boundary : goal.returns-in-Take-clause-boundary
returns-in-Take-clause-boundary c = boundary _ c.args.text.now c.utf8.text (step_cuts c.args.text.now _ (ap step_at (sym c.as_bytes.ensures.value) ∙ sym c.in-Take.ensures))

pub returns-in-Take-clause-some : goal.returns-in-Take-clause-some
returns-in-Take-clause-some c = let k = step_cuts c.args.text.now _ (ap step_at (sym c.as_bytes.ensures.value) ∙ sym c.in-Take.ensures) in (k.some, k.within)

pub returns-in-Sign-clause-boundary : goal.returns-in-Sign-clause-boundary
returns-in-Sign-clause-boundary c = boundary _ c.args.text.now c.utf8.text (subst (λ k. Cuts k c.args.text.now) (sym c.sign_len.ensures) (step_cuts c.args.text.now _ (ap step_at (sym c.as_bytes.ensures.value) ∙ sym c.in-Sign.ensures)))

pub returns-in-Sign-clause-some : goal.returns-in-Sign-clause-some
returns-in-Sign-clause-some c = let k = subst (λ k. Cuts k c.args.text.now) (sym c.sign_len.ensures) (step_cuts c.args.text.now _ (ap step_at (sym c.as_bytes.ensures.value) ∙ sym c.in-Sign.ensures)) in (k.some, k.within)

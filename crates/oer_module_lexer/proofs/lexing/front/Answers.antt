use Rattle.std.proofs.Common.{sym, ◌∙◌, ap, subst}
use Rattle.oer_module_lexer.specs.Lexing.{step_at}
use Rattle.oer_module_lexer.proofs.Boundaries.{Clean, step_clean}
use Rattle.oer_module_lexer.proofs.lexing.front.Goals as goal

pub before-requires : goal.before-requires
before-requires c = (step_clean c.args.text.now _ (ap step_at (sym c.as_bytes.ensures.value) ∙ sym c.in-Take.ensures)).boundary c.utf8.text

pub returns-in-Skip-clause-boundary : goal.returns-in-Skip-clause-boundary
returns-in-Skip-clause-boundary c = (step_clean c.args.text.now _ (ap step_at (sym c.as_bytes.ensures.value) ∙ sym c.in-Skip.ensures)).boundary c.utf8.text

pub returns-in-Skip-clause-some : goal.returns-in-Skip-clause-some
returns-in-Skip-clause-some c = let k = step_clean c.args.text.now _ (ap step_at (sym c.as_bytes.ensures.value) ∙ sym c.in-Skip.ensures) in (k.some, k.within)

pub returns-in-Take-clause-boundary : goal.returns-in-Take-clause-boundary
returns-in-Take-clause-boundary c = (step_clean c.args.text.now _ (ap step_at (sym c.as_bytes.ensures.value) ∙ sym c.in-Take.ensures)).boundary c.utf8.text

pub returns-in-Take-clause-some : goal.returns-in-Take-clause-some
returns-in-Take-clause-some c = let k = step_clean c.args.text.now _ (ap step_at (sym c.as_bytes.ensures.value) ∙ sym c.in-Take.ensures) in (k.some, k.within)

pub returns-in-Sign-clause-boundary : goal.returns-in-Sign-clause-boundary
returns-in-Sign-clause-boundary c = (subst (λ k. Clean k c.args.text.now) (sym c.sign_len.ensures) (step_clean c.args.text.now _ (ap step_at (sym c.as_bytes.ensures.value) ∙ sym c.in-Sign.ensures))).boundary c.utf8.text

pub returns-in-Sign-clause-some : goal.returns-in-Sign-clause-some
returns-in-Sign-clause-some c = let k = subst (λ k. Clean k c.args.text.now) (sym c.sign_len.ensures) (step_clean c.args.text.now _ (ap step_at (sym c.as_bytes.ensures.value) ∙ sym c.in-Sign.ensures)) in (k.some, k.within)

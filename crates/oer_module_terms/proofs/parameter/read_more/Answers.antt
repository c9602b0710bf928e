use Rattle.std.proofs.Common.{map, not, sym, ap, ◌∙◌}
use Rattle.std.proofs.lemmas.Result.{err_from_is_err_and}
use Rattle.std.proofs.lemmas.List.{map_push}
use Rattle.oer_module_terms.proofs.SameTurns.{parameter_turn}
use Rattle.oer_module_terms.proofs.Series.{turn_end, turn_err, turn_step, no_turn}
use Rattle.oer_module_lexer.specs.Token.{spots_of}
use Rattle.oer_module_terms.specs.Parameters.{parameter_at}
use Rattle.oer_module_terms.proofs.parameter.read_more.Goals as goal

pub returns-in_err-parameter : goal.returns-in_err-parameter
returns-in_err-parameter c =
    let p = err_from_is_err_and c.from_residual.result c.from_residual.ensures.1 in
    rw (p.1, p.2) (λ not_memory. turn_err c.more.invariant
    (ap not (sym c.is_at.ensures ∙ c.if-not-is_at.false))
    (ap parameter_at (sym c.bump.ensures) ∙ c.in_err-parameter.ensures not_memory))

pub returns-then-not-is_at : goal.returns-then-not-is_at
returns-then-not-is_at c =
    turn_end c.more.invariant (ap not (sym c.is_at.ensures ∙ c.if-not-is_at.true))

pub more-preserved : goal.more-preserved
more-preserved c =
    let pushed =
    ap (map (λ r. spots_of r.now)) c.in_ok-push.ensures.items
    ∙ map_push (λ r. spots_of r.now) c.more.found.items c.in_ok-parameter.parameter in
    turn_step c.more.invariant parameter_turn
    (ap not (sym c.is_at.ensures ∙ c.if-not-is_at.false))
    (ap parameter_at (sym c.bump.ensures) ∙ c.in_ok-parameter.ensures) pushed

pub unreachable-requires : goal.unreachable-requires
unreachable-requires c = no_turn c.more.invariant c.more-test.false

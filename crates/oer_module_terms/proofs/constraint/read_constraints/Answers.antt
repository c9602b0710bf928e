use Rattle.std.proofs.Common.{map, not, sym, ap, ◌∙◌}
use Rattle.std.proofs.lemmas.Result.{err_from_is_err_and}
use Rattle.std.proofs.lemmas.List.{map_push}
use Rattle.oer_module_terms.proofs.SameTurns.{constraint_turn}
use Rattle.oer_module_terms.proofs.Series.{turn_end, turn_err, turn_step, no_turn}
use Rattle.oer_module_terms.specs.Trees.{constraint_of}
use Rattle.oer_module_terms.proofs.constraint.read_constraints.Goals as goal

pub returns-in_err-constraint : goal.returns-in_err-constraint
returns-in_err-constraint c =
    let p = err_from_is_err_and c.from_residual.result c.from_residual.ensures.1 in
    rw (p.1, p.2) (λ not_memory. turn_err c.more.invariant
    (ap not (sym c.is_at.ensures ∙ c.if-not-is_at.false))
    (c.in_err-constraint.ensures not_memory))

pub returns-then-not-is_at : goal.returns-then-not-is_at
returns-then-not-is_at c =
    turn_end c.more.invariant (ap not (sym c.is_at.ensures ∙ c.if-not-is_at.true))

pub more-preserved : goal.more-preserved
more-preserved c =
    let pushed = ap (map constraint_of) c.in_ok-push.ensures.items ∙ map_push constraint_of c.more.found.items c.in_ok-constraint.constraint in
    turn_step c.more.invariant (constraint_turn c.args.levels)
    (ap not (sym c.is_at.ensures ∙ c.if-not-is_at.false))
    c.in_ok-constraint.ensures pushed

pub unreachable-requires : goal.unreachable-requires
unreachable-requires c = no_turn c.more.invariant c.more-test.false

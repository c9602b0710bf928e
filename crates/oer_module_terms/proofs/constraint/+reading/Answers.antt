use Rattle.std.proofs.Common.{◌∷◌, ◌++◌, [], map, not, sym, ap, ◌∙◌}
use Rattle.std.proofs.lemmas.Result.{err_from_is_err_and}
use Rattle.std.proofs.lemmas.List.{map_push}
use Rattle.oer_module_terms.proofs.Joining.{several_joined}
use Rattle.oer_module_terms.proofs.SameTurns.{set_turn}
use Rattle.oer_module_terms.proofs.Series.{turn_end, turn_err, turn_step, no_turn}
use Rattle.oer_module_terms.specs.Constraints.{between_at, joined_at, set_at}
use Rattle.oer_module_terms.specs.Trees.{elements_of}
use Rattle.oer_module_terms.proofs.constraint.+reading.Goals as goal

pub read_more-returns-in_err-set : goal.read_more-returns-in_err-set
read_more-returns-in_err-set t c =
    let p = err_from_is_err_and c.from_residual.result c.from_residual.ensures.1 in
    rw (p.1, p.2) (λ not_memory. turn_err c.more.invariant
    (ap not (sym c.is_at_mark.ensures ∙ c.if-not-is_at_mark.false))
    (ap (between_at c.args.levels (set_at c.args.levels) c.args.mark) (sym c.bump.ensures) ∙ c.in_err-set.ensures not_memory))

pub read_more-returns-then-not-is_at_mark : goal.read_more-returns-then-not-is_at_mark
read_more-returns-then-not-is_at_mark t c =
    turn_end c.more.invariant (ap not (sym c.is_at_mark.ensures ∙ c.if-not-is_at_mark.true))

pub read_more-more-preserved : goal.read_more-more-preserved
read_more-more-preserved t c =
    let pushed = ap (map elements_of) c.in_ok-push.ensures.items ∙ map_push elements_of c.more.found.items c.in_ok-set.set in
    turn_step c.more.invariant (set_turn c.args.levels c.args.mark)
    (ap not (sym c.is_at_mark.ensures ∙ c.if-not-is_at_mark.false))
    (ap (between_at c.args.levels (set_at c.args.levels) c.args.mark) (sym c.bump.ensures) ∙ c.in_ok-set.ensures) pushed

pub read_more-unreachable-requires : goal.read_more-unreachable-requires
read_more-unreachable-requires t c = no_turn c.more.invariant c.more-test.false

pub read_joined-returns : goal.read_joined-returns
unfolding joined_at
read_joined-returns t c =
    let only =
    ap (map elements_of) (c.in_ok-push.ensures.items ∙ ap (λ l. l ++ c.in_ok-first.first ∷ []) c.new-found.ensures.items) in
    several_joined c.args.mark (between_at c.args.levels (set_at c.args.levels) c.args.mark) c.in_ok-first.ensures
    (sym c.is_at_mark.ensures ∙ c.if-not-is_at_mark.false) only c.in_ok-read_more.ensures c.joined.ensures

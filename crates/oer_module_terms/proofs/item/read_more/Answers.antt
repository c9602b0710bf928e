use Rattle.std.proofs.Common.{map, sym, ap, ◌∙◌}
use Rattle.std.proofs.lemmas.Result.{err_from_is_err_and}
use Rattle.std.proofs.lemmas.List.{map_push}
use Rattle.oer_module_terms.proofs.SameTurns.{item_turn}
use Rattle.oer_module_terms.proofs.Series.{turn_end, turn_err, turn_step, no_turn}
use Rattle.oer_module_terms.specs.Items.{item_at}
use Rattle.oer_module_terms.specs.Trees.{item_of}
use Rattle.oer_module_terms.proofs.item.read_more.Goals as goal

pub returns-in_err-item : goal.returns-in_err-item
returns-in_err-item c =
    let p = err_from_is_err_and c.from_residual.result c.from_residual.ensures.1 in
    rw (p.1, p.2) (λ not_memory. turn_err c.more.invariant
    (sym c.is_at_end.ensures ∙ c.if-is_at_end.false)
    (ap (item_at c.args.numbering) (sym c.bump.ensures) ∙ c.in_err-item.ensures not_memory))

pub returns-then-is_at_end : goal.returns-then-is_at_end
returns-then-is_at_end c =
    turn_end c.more.invariant (sym c.is_at_end.ensures ∙ c.if-is_at_end.true)

pub more-preserved : goal.more-preserved
more-preserved c =
    let pushed = ap (map item_of) c.in_ok-push.ensures.items ∙ map_push item_of c.more.found.items c.in_ok-item.item in
    turn_step c.more.invariant (item_turn c.args.numbering c.args.root)
    (sym c.is_at_end.ensures ∙ c.if-is_at_end.false)
    (ap (item_at c.args.numbering) (sym c.bump.ensures) ∙ c.in_ok-item.ensures) pushed

pub unreachable-requires : goal.unreachable-requires
unreachable-requires c = no_turn c.more.invariant c.more-test.false

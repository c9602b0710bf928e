use Rattle.std.proofs.Common.{map}
use Rattle.std.proofs.lemmas.Result.{err_from_is_err_and}
use Rattle.oer_values.specs.ShapeView.{named_number}
use Rattle.oer_module_leaves.proofs.Items.{items_err}
use Rattle.oer_module_leaves.proofs.shape.named_items.Goals as goal

pub returns-in_err-made : goal.returns-in_err-made
returns-in_err-made c =
    let l = c.loop-item in
    let p = err_from_is_err_and c.from_residual.result c.from_residual.ensures.1 in
    rw (p.1, p.2) (λ not_memory. items_err c.args.«module» c.args.items.now l.item-index (map named_number l.named.items) _ l.invariant
    _ c.loop-item-test.true (c.in_err-made.ensures not_memory))

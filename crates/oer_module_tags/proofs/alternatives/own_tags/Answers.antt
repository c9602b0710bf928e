use Rattle.std.proofs.lemmas.Result.{err_from_is_err_and}
use Rattle.oer_module_names.specs.Views.{modules_in}
use Rattle.oer_module_tags.proofs.Loops.{own_err}
use Rattle.oer_module_tags.proofs.alternatives.own_tags.Goals as goal

pub returns-in_err-tag : goal.returns-in_err-tag
returns-in_err-tag c =
    let l = c.loop-element in
    let p = err_from_is_err_and c.from_residual.result c.from_residual.ensures.1 in
    rw (p.1, p.2) (λ not_memory. own_err (modules_in c.args.names.now) c.args.«module» c.args.elements.now l.element-index l.tags.items _
    l.invariant c.element-item.result _ c.loop-element-test.true c.element-item.is (c.in_err-tag.ensures not_memory))

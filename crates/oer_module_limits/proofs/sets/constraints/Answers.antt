use Rattle.std.proofs.Common.{map, ap, ◌∙◌}
use Rattle.std.proofs.lemmas.Result.{err_from_is_err_and}
use Rattle.std.proofs.lemmas.List.{map_push}
use Rattle.oer_module_bounds.specs.Sets.{constraint_of as bounding_of}
use Rattle.oer_module_limits.proofs.Loops.{item_err, item_step}
use Rattle.oer_module_limits.specs.Sets.{single_of}
use Rattle.oer_module_terms.specs.Trees.{constraint_of}
use Rattle.oer_module_limits.proofs.sets.constraints.Goals as goal

pub returns-in_err-said : goal.returns-in_err-said
returns-in_err-said c =
    let l = c.loop-one in
    let p = err_from_is_err_and c.from_residual.result c.from_residual.ensures.1 in
    rw (p.1, p.2) (λ not_memory. item_err constraint_of l.invariant c.one-item.result c.loop-one-test.true c.one-item.is
    (ap single_of (c.in_err-said.ensures not_memory)))

pub loop-one-preserved : goal.loop-one-preserved
loop-one-preserved c =
    let l = c.loop-one in
    let pushed = ap (map bounding_of) c.in_ok-push.ensures.items ∙ map_push bounding_of l.found.items c.in_ok-said.said in
    item_step constraint_of l.invariant c.one-item.result c.loop-one-test.true c.one-item.is (ap single_of c.in_ok-said.ensures) pushed

use Rattle.std.proofs.Common.{map, ap, ◌∙◌}
use Rattle.std.proofs.lemmas.Result.{err_from_is_err_and}
use Rattle.std.proofs.lemmas.List.{map_push}
use Rattle.oer_module_bounds.specs.Sets.{set_of}
use Rattle.oer_module_limits.proofs.Loops.{item_err, item_step}
use Rattle.oer_module_limits.specs.Sets.{single_of}
use Rattle.oer_module_terms.specs.Trees.{elements_of}
use Rattle.oer_module_limits.proofs.sets.+sets.Goals as goal

pub sets_of-returns-in_err-found : goal.sets_of-returns-in_err-found
sets_of-returns-in_err-found t c =
    let l = c.loop-member in
    let p = err_from_is_err_and c.from_residual.result c.from_residual.ensures.1 in
    rw (p.1, p.2) (λ not_memory. item_err elements_of l.invariant c.member-item.result c.loop-member-test.true c.member-item.is
    (ap single_of (c.in_err-found.ensures not_memory)))

pub sets_of-loop-member-preserved : goal.sets_of-loop-member-preserved
sets_of-loop-member-preserved t c =
    let l = c.loop-member in
    let pushed = ap (map set_of) c.in_ok-push.ensures.items ∙ map_push set_of l.sets.items c.in_ok-found.found in
    item_step elements_of l.invariant c.member-item.result c.loop-member-test.true c.member-item.is (ap single_of c.in_ok-found.ensures) pushed

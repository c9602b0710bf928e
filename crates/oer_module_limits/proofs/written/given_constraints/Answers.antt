use Rattle.std.proofs.Common.{map, ap, ◌∙◌}
use Rattle.std.proofs.lemmas.Result.{err_from_is_err_and}
use Rattle.std.proofs.lemmas.List.{map-append}
use Rattle.oer_module_limits.proofs.Loops.{turn_err, turn_step}
use Rattle.oer_module_terms.specs.Trees.{constraint_of}
use Rattle.oer_module_values.specs.Views.{given_of}
use Rattle.oer_module_limits.proofs.written.given_constraints.Goals as goal

pub returns-in_err-more : goal.returns-in_err-more
returns-in_err-more c =
    let l = c.loop-one in
    let p = err_from_is_err_and c.from_residual.result c.from_residual.ensures.1 in
    rw (p.1, p.2) (λ not_memory. turn_err given_of l.invariant _ c.loop-one-test.true (c.in_err-more.ensures not_memory))

pub loop-one-preserved : goal.loop-one-preserved
loop-one-preserved c =
    let l = c.loop-one in
    let appended = ap (map constraint_of) c.in_ok-append.ensures.items ∙ map-append constraint_of l.found.items c.in_ok-more.more.items in
    turn_step given_of l.invariant _ c.loop-one-test.true c.in_ok-more.ensures appended

use Rattle.oer_leaves.proofs.Places.{unknown_step}
use Rattle.oer_leaves.proofs.Steps.{ahead_more, ahead_failed}
use Rattle.oer_leaves.proofs.presence.put_unknown.Goals as goal

pub returns-in_err-done : goal.returns-in_err-done
returns-in_err-done g c =
    ahead_failed c.from_residual.result _ c.args.done c.loop-one.done _ _ _ _ _ _ _ _ _ _ c.loop-one.invariant (unknown_step c.args.unknown.now c.loop-one.one-index c.one-item.result c.deref.result.now c.loop-one-test.true c.one-item.is c.deref.ensures.value) c.from_residual.ensures.1 c.in_err-done.ensures

pub loop-one-preserved : goal.loop-one-preserved
loop-one-preserved g c =
    ahead_more c.args.done c.loop-one.done _ _ _ _ _ _ _ _ _ _ _ c.loop-one.invariant (unknown_step c.args.unknown.now c.loop-one.one-index c.one-item.result c.deref.result.now c.loop-one-test.true c.one-item.is c.deref.ensures.value) c.in_ok-done.ensures

use Rattle.std.proofs.Common.{arith, ◌+◌, ◌++◌, ◌∷◌, [], true, false, replicate}
use Rattle.oer_leaves.proofs.Places.{mark_step}
use Rattle.oer_leaves.proofs.PackSteps.{through_more, through_failed}
use Rattle.oer_leaves.proofs.presence.put_unknown_bits.Goals as goal

pub returns-in_err-done : goal.returns-in_err-done
returns-in_err-done g c =
    through_failed c.from_residual.result _ c.args.done c.loop-one.done _ _ (replicate c.saturating_sub.result false ++ true ∷ []) _ c.args.packer.now c.loop-one.packer c.put_mark.new.packer c.put_mark.new.packer _ _ _ _ _ _ c.loop-one.invariant
    (mark_step c.args.unknown.now c.loop-one.one-index c.loop-one.next c.saturating_sub.result (c.one-item.result.place + 1) c.one-item.result c.loop-one-test.true c.one-item.is c.saturating_sub.ensures (omega arith)) c.from_residual.ensures.1 c.in_err-done.ensures

pub loop-one-preserved : goal.loop-one-preserved
loop-one-preserved g c =
    through_more c.args.done c.loop-one.done _ _ _ (replicate c.saturating_sub.result false ++ true ∷ []) _ c.args.packer.now c.loop-one.packer c.put_mark.new.packer _ _ _ _ _ _ c.loop-one.invariant
    (mark_step c.args.unknown.now c.loop-one.one-index c.loop-one.next c.saturating_sub.result (c.one-item.result.place + 1) c.one-item.result c.loop-one-test.true c.one-item.is c.saturating_sub.ensures (omega arith)) c.in_ok-done.ensures

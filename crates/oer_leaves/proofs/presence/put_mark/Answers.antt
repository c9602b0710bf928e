use Rattle.std.proofs.Common.{◌∷◌, [], false, true}
use Rattle.oer_leaves.proofs.Places.{zeros_step, zeros_end}
use Rattle.oer_leaves.proofs.PackSteps.{through_more, through_failed, through_last, through_same}
use Rattle.oer_leaves.proofs.presence.put_mark.Goals as goal

pub returns-in_err-sum : goal.returns-in_err-sum
returns-in_err-sum g c =
    through_failed c.from_residual.result _ c.args.done c.loop.sum _ _ (false ∷ []) _ c.args.packer.now c.loop.packer c.put.new.self c.put.new.self _ _ _ _ _ _ c.loop.invariant (zeros_step c.args.count c.loop.counter c.loop-test.true) c.from_residual.ensures.1 c.in_err-sum.ensures

pub loop-preserved : goal.loop-preserved
loop-preserved g c =
    through_more c.args.done c.loop.sum _ _ _ (false ∷ []) _ c.args.packer.now c.loop.packer c.put.new.self _ _ _ _ _ _ c.loop.invariant (zeros_step c.args.count c.loop.counter c.loop-test.true) c.in_ok-sum.ensures

pub returns : goal.returns
returns g c =
    through_last c.put-2.result c.args.done c.loop.sum _ (true ∷ []) c.args.packer.now c.loop.packer c.put-2.new.self _ _ _ _ _ _ (through_same _ _ _ _ _ _ _ _ _ _ _ (zeros_end c.args.count c.loop.counter c.loop-test.false) c.loop.invariant) c.put-2.ensures

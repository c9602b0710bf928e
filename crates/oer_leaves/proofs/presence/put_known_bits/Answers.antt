use Rattle.std.proofs.Common.{◌∷◌, [], rules}
use Rattle.oer_leaves.proofs.Places.{known_bits_step}
use Rattle.oer_leaves.proofs.PackSteps.{through_more, through_failed}
use Rattle.oer_leaves.proofs.presence.put_known_bits.Goals as goal

pub returns-in_err-done : goal.returns-in_err-done
returns-in_err-done g c =
    through_failed c.from_residual.result _ c.args.done c.loop.done _ _ (c.is_some.result ∷ []) _ c.args.packer.now c.loop.packer c.put.new.self c.put.new.self _ _ _ _ _ _ c.loop.invariant
    (known_bits_step c.args.additions.now c.loop.index c.loop.rest.now c.in-Some.more.now c.in-Some.place.now c.is_some.result c.loop-test.true (search rules) c.is_some.ensures) c.from_residual.ensures.1 c.in_err-done.ensures

pub loop-preserved : goal.loop-preserved
loop-preserved g c =
    through_more c.args.done c.loop.done _ _ _ (c.is_some.result ∷ []) _ c.args.packer.now c.loop.packer c.put.new.self _ _ _ _ _ _ c.loop.invariant
    (known_bits_step c.args.additions.now c.loop.index c.loop.rest.now c.in-Some.more.now c.in-Some.place.now c.is_some.result c.loop-test.true (search rules) c.is_some.ensures) c.in_ok-done.ensures

use Rattle.std.proofs.Common.{◌+◌, drop}
use Rattle.oer_units.specs.Least.{base128_octets, subidentifier_octets}
use Rattle.oer_leaves.proofs.Steps.{ahead_more, ahead_failed}
use Rattle.oer_leaves.proofs.Numbers.{arcs_step}
use Rattle.oer_leaves.proofs.leaf.put_arcs.Goals as goal

pub returns-in_err-done : goal.returns-in_err-done
returns-in_err-done g c =
    let i = c.loop-arc.arc-index in
    ahead_failed c.from_residual.result _ c.args.done c.loop-arc.done _ _ (base128_octets _) (subidentifier_octets (drop (i + 1) c.args.arcs.now)) _ _ _ _ _ _ c.loop-arc.invariant (arcs_step c.args.arcs.now i 0 c.loop-arc-test.true) c.from_residual.ensures.1 c.in_err-done.ensures

pub loop-arc-preserved : goal.loop-arc-preserved
loop-arc-preserved g c =
    let i = c.loop-arc.arc-index in
    ahead_more c.args.done c.loop-arc.done _ _ _ (base128_octets _) (subidentifier_octets (drop (i + 1) c.args.arcs.now)) _ _ _ _ _ _ c.loop-arc.invariant (arcs_step c.args.arcs.now i 0 c.loop-arc-test.true) c.in_ok-done.ensures

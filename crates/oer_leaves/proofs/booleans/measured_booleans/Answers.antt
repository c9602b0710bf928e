use Rattle.std.proofs.Common.{arith}
use Rattle.oer_model.specs.AsnType.{boolean}
use Rattle.oer_leaves.proofs.Steps.{some_is, none_is, measured_none}
use Rattle.oer_leaves.proofs.Components.{values_len}
use Rattle.oer_leaves.proofs.booleans.measured_booleans.Goals as goal

pub returns-in_err-done : goal.returns-in_err-done
returns-in_err-done c =
    let len = values_len boolean c.args.values.now c.loop-value.value-index c.value-item.result c.loop-value-test.true c.value-item.is in
    measured_none c.from_residual.result _ _ _ c.from_residual.ensures (none_is c.measured_element.result _ _ c.in_err-done.was c.measured_element.ensures) (omega (arith, c.loop-value.invariant, len))

pub loop-value-preserved : goal.loop-value-preserved
loop-value-preserved c =
    let len = values_len boolean c.args.values.now c.loop-value.value-index c.value-item.result c.loop-value-test.true c.value-item.is in
    let part = some_is c.measured_element.result _ _ _ c.in_ok-done.was c.measured_element.ensures in
    omega (arith, c.loop-value.invariant, len, part)

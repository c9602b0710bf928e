use Rattle.std.proofs.Common.{◌+◌, drop}
use Rattle.oer_model.specs.AsnType.{boolean}
use Rattle.oer_model.specs.Canonical.{canonical_octets}
use Rattle.oer_values.specs.ValueView.{value_of, values_of}
use Rattle.oer_leaves.specs.Parts.{values_octets}
use Rattle.oer_leaves.proofs.Steps.{ahead_more, ahead_failed}
use Rattle.oer_leaves.proofs.Components.{values_step}
use Rattle.oer_leaves.proofs.booleans.put_booleans.Goals as goal

pub returns-in_err-done : goal.returns-in_err-done
returns-in_err-done g c =
    let i = c.loop-value.value-index in
    let step = values_step boolean c.args.values.now i c.value-item.result c.loop-value-test.true c.value-item.is in
    ahead_failed c.from_residual.result _ c.args.done c.loop-value.done _ _ (canonical_octets boolean (value_of c.value-item.result)) (values_octets boolean (values_of (drop (i + 1) c.args.values.now))) _ _ _ _ _ _ c.loop-value.invariant step c.from_residual.ensures.1 c.in_err-done.ensures

pub loop-value-preserved : goal.loop-value-preserved
loop-value-preserved g c =
    let i = c.loop-value.value-index in
    let step = values_step boolean c.args.values.now i c.value-item.result c.loop-value-test.true c.value-item.is in
    ahead_more c.args.done c.loop-value.done c.in_ok-done.done _ _ (canonical_octets boolean (value_of c.value-item.result)) (values_octets boolean (values_of (drop (i + 1) c.args.values.now))) _ _ _ _ _ _ c.loop-value.invariant step c.in_ok-done.ensures

use Rattle.oer_values.specs.ValueView.{values_of}
use Rattle.oer_writer.proofs.Bounds.{boolean_more}
use Rattle.oer_writer.proofs.bound.bound_booleans.Goals as goal

pub loop-value-preserved : goal.loop-value-preserved
loop-value-preserved c = boolean_more c.args.done (values_of c.args.values.now) c.args.values.now c.loop-value.value-index c.value-item.result c.in-Bool.field-0 c.loop-value-test.true c.value-item.is c.in-Bool.is c.loop-value.invariant

use Rattle.oer_model.specs.AsnValue.{int}
use Rattle.oer_writer.proofs.Bounds.{int_bound, most}
use Rattle.oer_writer.proofs.bound.bound_integer.Goals as goal

pub returns : goal.returns
returns c = most c.plus.result c.args.done 17 (int c.args.value) c.plus.ensures (λ T. int_bound T c.args.value c.ranges.value)

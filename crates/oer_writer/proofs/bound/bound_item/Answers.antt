use Rattle.oer_units.proofs.Lowest.{wide_bits}
use Rattle.oer_model.specs.AsnValue.{enum}
use Rattle.oer_writer.proofs.Bounds.{item_bound, most}
use Rattle.oer_writer.proofs.bound.bound_item.Goals as goal

pub returns : goal.returns
returns c = most c.plus.result c.args.done 17 (enum c.args.value) c.plus.ensures (λ T. item_bound T c.args.value (wide_bits c.args.value c.ranges.value))

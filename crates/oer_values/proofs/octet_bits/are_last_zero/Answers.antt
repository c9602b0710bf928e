use Rattle.oer_model.proofs.bits.LowBits.{low_bits, shifted}
use Rattle.oer_values.proofs.octet_bits.are_last_zero.Goals as goal

pub returns : goal.returns
returns c = rw (shifted c.args.count c.requires) (low_bits c.args.count c.args.octet c.requires)

use Rattle.oer_model.specs.Bits.{bit}
use Rattle.oer_model.proofs.bits.Packing.{bit_from_index}
use Rattle.oer_values.proofs.bits.bit_at.Goals as goal

pub returns : goal.returns
unfolding bit
returns c = rw c.bit_of.ensures (bit_from_index c.args.octets.now c.args.index c.requires)

use Rattle.std.proofs.Common.{refl}
use Rattle.oer_model.specs.Bits.{bit}
use Rattle.oer_values.proofs.octet_bits.bit_of.Goals as goal

pub returns : goal.returns
unfolding bit
returns c = refl

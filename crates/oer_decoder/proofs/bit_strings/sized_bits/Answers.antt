use Rattle.std.proofs.Common.{sym}
use Rattle.oer_decoder.proofs.bit_strings.sized_bits.Goals as goal

pub returns-in-Some : goal.returns-in-Some
returns-in-Some g c = rw (sym c.in-Some.ensures) c.fixed_bits.ensures

pub returns-in-None : goal.returns-in-None
returns-in-None g c = rw (sym c.in-None.ensures) c.counted_bits.ensures

use Rattle.oer_checker.proofs.BitSteps.{least_no, least_yes}
use Rattle.oer_checker.proofs.bit_strings.are_least_bits.Goals as goal

pub returns-then-octets-counted_len : goal.returns-then-octets-counted_len
returns-then-octets-counted_len c = λ s e. least_yes c.args.count c.octets_needed.result c.counted_len.result c.spare_bits.result c.args.octets.now c.ends_in_zeros.result s c.if-octets-counted_len.true c.counted_len.ensures c.octets_needed.ensures.value c.ends_in_zeros.ensures c.spare_bits.ensures.value e

pub returns-else-octets-counted_len : goal.returns-else-octets-counted_len
returns-else-octets-counted_len c = λ s e. least_no c.args.count c.octets_needed.result c.counted_len.result c.args.octets.now s c.if-octets-counted_len.false c.counted_len.ensures c.octets_needed.ensures.value e

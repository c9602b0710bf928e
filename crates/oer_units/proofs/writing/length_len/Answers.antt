use Rattle.std.proofs.Common.{arith, ap, sym, length}
use Rattle.oer_units.proofs.Numbers.{length_octets_below, length_octets_above, length-unsigned_octets}
use Rattle.oer_units.proofs.writing.length_len.Goals as goal

pub returns-then-n-lt128 : goal.returns-then-n-lt128
returns-then-n-lt128 c = sym (ap length (length_octets_below c.args.n c.if-n-lt128.true))

pub returns-else-n-lt128 : goal.returns-else-n-lt128
returns-else-n-lt128 c = omega (arith, ap length (length_octets_above c.args.n c.if-n-lt128.false), length-unsigned_octets c.args.n, c.needed.ensures.value)

use Rattle.oer_units.proofs.Numbers.{length_octets_below, length_octets_above}
use Rattle.oer_units.proofs.Needed.{unsigned_octets_are}
use Rattle.oer_units.proofs.writing.put_length.Goals as goal

pub returns-then-n-lt128 : goal.returns-then-n-lt128
returns-then-n-lt128 g c = rw (length_octets_below c.args.n c.if-n-lt128.true) c.put_octets.ensures

pub returns-else-n-lt128 : goal.returns-else-n-lt128
returns-else-n-lt128 g c = rw (length_octets_above c.args.n c.if-n-lt128.false, unsigned_octets_are c.args.n, ← c.needed-count.ensures.value) c.put_low_octets.ensures

use Rattle.oer_units.proofs.Lowest.{puts_same, last_of_eight}
use Rattle.oer_units.proofs.writing.put_unsigned_fixed.Goals as goal

pub returns : goal.returns
returns g c = puts_same (last_of_eight c.args.width c.args.value c.octets.result c.to_be_bytes.result c.to_be_bytes.ensures c.octets.ensures) c.put_octets.ensures

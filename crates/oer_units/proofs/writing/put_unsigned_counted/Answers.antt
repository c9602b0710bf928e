use Rattle.std.proofs.Common.{◌∙◌}
use Rattle.oer_units.proofs.Lowest.{puts_same, unsigned_counted_is, abs_bits}
use Rattle.oer_units.proofs.writing.put_unsigned_counted.Goals as goal

pub returns : goal.returns
returns g c = puts_same (unsigned_counted_is c.args.value c.needed-count.result c.cast_unsigned-octets.result c.needed-count.ensures.most c.needed-count.ensures.value (c.cast_unsigned-octets.ensures ∙ abs_bits c.args.value c.ranges.value c.requires)) c.put_low_octets.ensures

use Rattle.oer_units.proofs.Lowest.{puts_same}
use Rattle.oer_units.proofs.WrittenDigits.{all_digits}
use Rattle.oer_units.proofs.writing.put_subidentifier.Goals as goal

pub returns : goal.returns
returns g c = puts_same (all_digits c.fill_digits-from.new.buffer c.fill_digits-from.result c.args.value c.fill_digits-from.array_long c.fill_digits-from.ensures.digits) c.put_octets.ensures

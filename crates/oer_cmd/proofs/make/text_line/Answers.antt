use Rattle.oer_units.specs.Octets.{IsOctets}
use Rattle.oer_model.proofs.bits.Packing.{octets_from}
use Rattle.oer_cmd.proofs.Meeting.{anyway}
use Rattle.oer_cmd.proofs.make.text_line.Goals as goal

pub returns-clause-octets : goal.returns-clause-octets
returns-clause-octets c = anyway (IsOctets c.args.text.now) c.in_digits.result (octets_from c.args.text.now (λ i. (c.type_inv.text i).fits))

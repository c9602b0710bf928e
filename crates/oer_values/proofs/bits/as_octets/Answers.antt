use Rattle.oer_model.proofs.bits.Packing.{octets_from}
use Rattle.oer_values.proofs.bits.as_octets.Goals as goal

pub returns-clause-below : goal.returns-clause-below
returns-clause-below c = octets_from c.args.octets.now (λ k. (c.type_inv.octets k).fits)

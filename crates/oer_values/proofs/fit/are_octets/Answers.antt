use Rattle.std.proofs.Common.{sym}
use Rattle.oer_model.proofs.fitting.Tests.{octets_below}
use Rattle.oer_model.proofs.bits.Packing.{octets_from}
use Rattle.oer_values.proofs.fit.are_octets.Goals as goal

pub returns : goal.returns
returns c = sym (octets_below c.args.octets.now (octets_from c.args.octets.now (λ k. (c.type_inv.octets k).fits)))

use Rattle.std.proofs.Common.{ap, sym, ◌∙◌, length}
use Rattle.oer_model.proofs.bits.Packing.{bits_counted}
use Rattle.oer_values.proofs.bits.Bits.count.Goals as goal

pub returns : goal.returns
returns c = sym (bits_counted c.self.inside.octets.items c.self.inside.count c.self.invariant.0) ∙ ap length c.self.view_is

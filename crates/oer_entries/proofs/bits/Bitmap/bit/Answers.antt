use Rattle.std.proofs.Common.{◌∙◌}
use Rattle.oer_model.specs.Bits.{bits_of}
use Rattle.oer_entries.proofs.Nexts.{bit_kept}
use Rattle.oer_entries.proofs.bits.Bitmap.bit.Goals as goal

pub returns-then-index-self : goal.returns-then-index-self
returns-then-index-self c = c.bit.ensures ∙ bit_kept c.args.index c.args.self.count (bits_of c.args.self.octets.now) c.if-index-self.true

use Rattle.std.proofs.Common.{◌∙◌, sym}
use Rattle.oer_model.specs.Bits.{bits_of}
use Rattle.oer_checker.proofs.BitLists.{first_there}
use Rattle.oer_checker.proofs.bits.Bits.first.Goals as goal

pub returns-then-self : goal.returns-then-self
returns-then-self c = c.bit.ensures ∙ sym (first_there c.args.self.from c.args.self.to (bits_of c.args.self.octets.now) c.if-self.true)

use Rattle.std.proofs.Common.{take}
use Rattle.oer_model.specs.Bits.{bits_of}
use Rattle.oer_checker.proofs.BitLists.{drop_next}
use Rattle.oer_checker.proofs.bits.Bits.later.Goals as goal

pub returns : goal.returns
returns c = drop_next c.args.self.from (take c.args.self.to (bits_of c.args.self.octets.now))

use Rattle.oer_checker.proofs.BitLists.{ends_bit}
use Rattle.oer_checker.proofs.bits.Bits.ends_set_from.Goals as goal

pub returns-else-self-from : goal.returns-else-self-from
returns-else-self-from c = ends_bit c.args.self c.args.from c.bit.result c.requires.0 c.requires.1 c.if-self-from.false c.bit.ensures

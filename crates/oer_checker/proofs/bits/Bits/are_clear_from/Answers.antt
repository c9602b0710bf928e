use Rattle.oer_checker.proofs.BitLists.{clear_end, clear_next, clear_set}
use Rattle.oer_checker.proofs.bits.Bits.are_clear_from.Goals as goal

pub returns-then-bit : goal.returns-then-bit
returns-then-bit c = clear_set c.args.self c.loop-index.index c.args.from c.bit.result c.requires c.loop-index-test.true c.bit.ensures c.if-bit.true c.loop-index.invariant

pub loop-index-preserved : goal.loop-index-preserved
loop-index-preserved c = clear_next c.args.self c.loop-index.index c.args.from c.bit.result c.requires c.loop-index-test.true c.bit.ensures c.if-bit.false c.loop-index.invariant

pub returns : goal.returns
returns c = clear_end c.args.self c.loop-index.index c.args.from c.requires c.loop-index-test.false c.loop-index.invariant

use Rattle.oer_layout.proofs.Celled.{all_bits, no_bits, one_bit}
use Rattle.oer_layout.proofs.line.bits_text.Goals as goal

pub loop-bit-init : goal.loop-bit-init
loop-bit-init c = no_bits c.args.word.now c.args.bits.now _ c.in_ok-text.ensures.ok

pub loop-bit-preserved : goal.loop-bit-preserved
loop-bit-preserved c = one_bit c.args.word.now c.args.bits.now c.loop-bit.bit-index _ _ _ c.loop-bit-test.true c.loop-bit.invariant c.in_ok-push_bit.ensures

pub returns : goal.returns
returns c = all_bits c.args.word.now c.args.bits.now c.loop-bit.bit-index _ c.loop-bit-test.false c.loop-bit.invariant

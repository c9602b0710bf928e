use Rattle.std.proofs.Common.{sym}
use Rattle.oer_module_defaults.proofs.Loops.{bits_next, bits_over}
use Rattle.oer_module_defaults.proofs.bits.digits_of.Goals as goal

pub loop-bit-preserved : goal.loop-bit-preserved
loop-bit-preserved c =
    let l = c.loop-bit in
    bits_next c.args.numbers.now c.args.size l.bit l.digits.items _ l.invariant _ _
    c.loop-bit-test.true c.digit_at.ensures c.in_ok-push.ensures.items

pub returns : goal.returns
returns c =
    let l = c.loop-bit in
    sym (bits_over c.args.numbers.now c.args.size l.bit l.digits.items _ l.invariant c.loop-bit-test.false)

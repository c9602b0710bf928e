use Rattle.oer_layout.proofs.Laid.{pushed}
use Rattle.oer_layout.proofs.Pushed.{bits_begun, bits_ended, next_bit}
use Rattle.oer_layout.proofs.as_json.push_bits.Goals as goal

pub loop-bit-init : goal.loop-bit-init
loop-bit-init c = bits_begun c.args.bits.now _ _ c.in_ok-push_str.ensures.bytes

pub loop-bit-preserved : goal.loop-bit-preserved
loop-bit-preserved c = next_bit c.args.bits.now c.loop-bit.bit-index _ _ _ _ _ _ c.loop-bit-test.true c.in_ok-push_comma.ensures c.in_ok-push_bit.ensures c.loop-bit.invariant

pub returns : goal.returns
returns c = pushed c.push_str-2.result _ _ _ _ c.push_str-2.ensures.bytes (λ h. bits_ended c.args.bits.now c.loop-bit.bit-index _ _ _ _ c.loop-bit-test.false h c.loop-bit.invariant)

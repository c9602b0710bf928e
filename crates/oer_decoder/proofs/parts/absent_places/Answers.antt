use Rattle.std.proofs.Common.{arith}
use Rattle.std.proofs.lemmas.Grind.{common_steps}
use Rattle.oer_decoder.proofs.Loops.{absent_next, absent_end}
use Rattle.oer_decoder.proofs.parts.absent_places.Goals as goal

pub loop-addition-init : goal.loop-addition-init
loop-addition-init c = record {
  filled = grind (arith, c.in_ok-places.ensures.items, common_steps);
  room = omega (arith, c.in_ok-places.ensures.len, c.in_ok-places.ensures.exact);
}

pub push_reserved-requires : goal.push_reserved-requires
push_reserved-requires c = omega (arith, c.loop-addition-test.true, c.loop-addition.invariant.room)

pub loop-addition-preserved : goal.loop-addition-preserved
loop-addition-preserved c = record {
  filled = absent_next c.args.additions.now c.loop-addition.addition-index c.addition-item.result c.loop-addition.places.items _ _ c.loop-addition-test.true (grind (arith, common_steps)) c.loop-addition.invariant.filled;
  room = omega (arith, c.loop-addition-test.true, c.loop-addition.invariant.room, c.push_reserved.ensures.len, c.push_reserved.ensures.capacity);
}

pub returns : goal.returns
returns c = absent_end c.args.additions.now c.loop-addition.addition-index c.loop-addition.places.items _ c.loop-addition-test.false c.loop-addition.invariant.filled

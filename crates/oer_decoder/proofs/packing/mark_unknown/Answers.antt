use Rattle.std.proofs.Common.{refl}
use Rattle.oer_decoder.specs.MarksView.{bits_in}
use Rattle.oer_decoder.proofs.Packed.{marks_end, marks_more, marks_start}
use Rattle.oer_decoder.proofs.packing.mark_unknown.Goals as goal

pub loop-one-init : goal.loop-one-init
loop-one-init c = marks_start c.args.unknown.now c.args.next (bits_in c.args.marks.now)

pub loop-one-preserved : goal.loop-one-preserved
loop-one-preserved c = marks_more c.args.unknown.now c.loop-one.one-index c.one-item.result c.args.next c.loop-one.next _ _ _ _ c.loop-one-test.true c.one-item.is c.saturating_sub.ensures
    c.loop-one.invariant c.in_ok-mark_after.ensures

pub returns : goal.returns
returns c = marks_end c.args.unknown.now c.loop-one.one-index c.args.next c.loop-one.next _ _ c.loop-one-test.false c.loop-one.invariant

use Rattle.std.proofs.Common.{◌≡◌, ◌∙◌, ◌++◌, ap, append-nil, arith, replicate, false, sym}
use Rattle.oer_decoder.specs.MarksView.{bits_in}
use Rattle.oer_decoder.proofs.Packed.{zero_more}
use Rattle.oer_decoder.proofs.Recoded.{grows_then}
use Rattle.oer_decoder.proofs.packing.mark_after.Goals as goal

pub loop-i-init : goal.loop-i-init
loop-i-init c = sym (append-nil (bits_in c.args.marks.now))

pub loop-i-preserved : goal.loop-i-preserved
loop-i-preserved c = zero_more (bits_in c.args.marks.now) _ _ c.loop-i.i c.loop-i.invariant c.in_ok-push.ensures

pub returns : goal.returns
returns c =
    let all : c.loop-i.i ≡ c.args.count = omega arith in
    grows_then (replicate c.args.count false) _ (bits_in c.args.marks.now) (bits_in c.loop-i.marks) _ c.push-2.result (c.loop-i.invariant
    ∙ ap (λ n. bits_in c.args.marks.now ++ replicate n false) all) c.push-2.ensures

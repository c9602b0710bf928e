use Rattle.std.proofs.Common.{sym, ◌∙◌}
use Rattle.oer_notation.specs.Weight.{scale_of}
use Rattle.oer_notation.proofs.Weighing.{step_more, step_none}
use Rattle.oer_notation.proofs.weight.heavy_at.Goals as goal

pub returns-in-Heavy : goal.returns-in-Heavy
returns-in-Heavy c =
    let l = c.loop-index in
    sym (l.invariant ∙ step_more c.args.spots.now l.index _ (scale_of l.scale) c.step.new.self _ _ _ c.loop-index-test.true
    c.named-name.ensures c.in_ok-step.ensures c.in-Heavy.is)

pub returns-in-Over : goal.returns-in-Over
returns-in-Over c =
    let l = c.loop-index in
    sym (l.invariant ∙ step_more c.args.spots.now l.index _ (scale_of l.scale) c.step.new.self _ _ _ c.loop-index-test.true
    c.named-name.ensures c.in_ok-step.ensures c.in-Over.is)

pub loop-index-preserved : goal.loop-index-preserved
loop-index-preserved c =
    let l = c.loop-index in
    l.invariant ∙ step_more c.args.spots.now l.index _ (scale_of l.scale) c.step.new.self _ _ _ c.loop-index-test.true
    c.named-name.ensures c.in_ok-step.ensures c.in-On.is

pub returns : goal.returns
returns c =
    let l = c.loop-index in
    sym (l.invariant ∙ step_none c.args.spots.now l.index (scale_of l.scale) c.loop-index-test.false)

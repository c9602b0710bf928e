use Rattle.std.proofs.Common.{◌∙◌, add-one}
use Rattle.oer_module_limits.proofs.Bounding.{narrows_step}
use Rattle.oer_module_terms.specs.Trees.{constraint_of}
use Rattle.oer_module_limits.proofs.kinds.narrows.Goals as goal

pub returns-then-narrows_at : goal.returns-then-narrows_at
returns-then-narrows_at c =
    let l = c.loop-index in
    let s = narrows_step constraint_of c.args.kind l.behind_size c.args.constraints.now l.index c.index-constraints-index.result c.loop-index-test.true in
    let whole = l.invariant ∙ s in
    rw whole (rw (← c.index-constraints-index.is, ← c.narrows_at.ensures, c.if-narrows_at.true))

pub loop-index-preserved : goal.loop-index-preserved
loop-index-preserved c =
    let l = c.loop-index in
    let s = narrows_step constraint_of c.args.kind l.behind_size c.args.constraints.now l.index c.index-constraints-index.result c.loop-index-test.true in
    let whole = l.invariant ∙ s in
    rw whole (rw (← c.index-constraints-index.is, ← c.narrows_at.ensures, c.if-narrows_at.false, add-one))

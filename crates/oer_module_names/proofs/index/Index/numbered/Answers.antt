use Rattle.oer_module_names.proofs.Indexing.{numbered_left, numbered_over, leaves_all, leaves_less, index_of_all}
use Rattle.oer_module_names.proofs.index.Index.numbered.Goals as goal

pub loop-place-init : goal.loop-place-init
loop-place-init c = leaves_all _ _

pub loop-place-preserved : goal.loop-place-preserved
loop-place-preserved c =
    let l = c.loop-place in
    leaves_less _ _ _ _ _ _ _ l.invariant (numbered_left c.args.names.now l.place _ c.loop-place-test.true) c.in_ok-add.ensures

pub returns : goal.returns
returns c =
    let l = c.loop-place in
    index_of_all _ _ _ _ c.new-index.ensures l.invariant (numbered_over c.args.names.now l.place c.loop-place-test.false)

use Rattle.oer_module_names.proofs.Indexing.{each_left, each_over, leaves_all, leaves_less, leaves_none}
use Rattle.oer_module_names.proofs.index.Index.add_each.Goals as goal

pub loop-name-init : goal.loop-name-init
loop-name-init c = leaves_all _ _

pub loop-name-preserved : goal.loop-name-preserved
loop-name-preserved c =
    let l = c.loop-name in
    leaves_less _ _ _ _ _ _ _ l.invariant (each_left c.args.names.now l.name-index c.args.number _ c.loop-name-test.true) c.in_ok-add.ensures

pub returns : goal.returns
returns c =
    let l = c.loop-name in
    leaves_none _ _ _ _ l.invariant (each_over c.args.names.now l.name-index c.args.number c.loop-name-test.false)

use Rattle.std.proofs.Common.{◌∙◌, sym, add-one}
use Rattle.oer_module_values.proofs.Items.{item_here, item_later, item_over}
use Rattle.oer_module_defaults.proofs.items.item_named.Goals as goal

pub returns-then-eq : goal.returns-then-eq
returns-then-eq c =
    let l = c.loop-item in
    sym (l.invariant ∙ item_here c.args.name.now c.args.items.now l.item-index _ c.loop-item-test.true (sym c.eq.ensures ∙ c.if-eq.true))

pub loop-item-preserved : goal.loop-item-preserved
loop-item-preserved c =
    let l = c.loop-item in
    rw (add-one l.item-index)
    (l.invariant ∙ item_later c.args.name.now c.args.items.now l.item-index _ c.loop-item-test.true (sym c.eq.ensures ∙ c.if-eq.false))

pub returns : goal.returns
returns c = let l = c.loop-item in sym (l.invariant ∙ item_over c.args.name.now c.args.items.now l.item-index c.loop-item-test.false)

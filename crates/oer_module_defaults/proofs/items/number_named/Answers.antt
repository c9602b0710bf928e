use Rattle.std.proofs.Common.{◌∙◌, sym, arith, add-one}
use Rattle.std.proofs.lemmas.Int.{to_z-of_z}
use Rattle.oer_module_defaults.proofs.Numbers.{number_here, number_later, number_over}
use Rattle.oer_module_defaults.proofs.items.number_named.Goals as goal

pub returns-then-eq : goal.returns-then-eq
returns-then-eq c =
    let l = c.loop-item in
    let h = sym c.eq.ensures ∙ c.if-eq.true in
    let found = sym (l.invariant ∙ number_here c.args.name.now c.args.items.now l.item-index _ c.loop-item-test.true h) in
    grind (arith, to_z-of_z)

pub loop-item-preserved : goal.loop-item-preserved
loop-item-preserved c =
    let l = c.loop-item in
    rw (add-one l.item-index)
    (l.invariant ∙ number_later c.args.name.now c.args.items.now l.item-index _ c.loop-item-test.true (sym c.eq.ensures ∙ c.if-eq.false))

pub returns : goal.returns
returns c = let l = c.loop-item in sym (l.invariant ∙ number_over c.args.name.now c.args.items.now l.item-index c.loop-item-test.false)

use Rattle.std.proofs.Common.{◌∙◌, sym, ap, map}
use Rattle.oer_module_terms.specs.Trees.{item_of}
use Rattle.oer_module_values.specs.Numbers.{item_named}
use Rattle.oer_module_values.proofs.Items.{item_first, item_second}
use Rattle.oer_module_values.proofs.governor.item_among.Goals as goal

pub returns-in-Some : goal.returns-in-Some
returns-in-Some c =
    sym (item_first c.args.name.now _ _ _ (ap (λ l. item_named c.args.name.now (map item_of l)) (sym c.deref.ensures.value) ∙ sym c.in-Some.ensures))

pub returns-in-Some-more : goal.returns-in-Some-more
returns-in-Some-more c =
    let w = c.args.name.now in
    let first = ap (λ l. item_named w (map item_of l)) (sym c.deref.ensures.value) ∙ sym c.in-None.ensures in
    let second = c.item_named-in-Some-more.ensures ∙ ap (λ l. item_named w (map item_of l)) c.deref-in-Some-more.ensures.value in
    rw c.in-Some-more.is (second ∙ sym (item_second w _ _ first))

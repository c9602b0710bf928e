use Rattle.std.proofs.Common.{◌≡◌, map, true, false, sym, ap, ◌∙◌, arith, add-one, string_bytes}
use Rattle.std.proofs.lemmas.Int.{to_z-of_z}
use Rattle.std.specs.Str.{bytes_eq}
use Rattle.oer_values.specs.ShapeView.{named_number}
use Rattle.oer_literals.specs.Items.{number_named}
use Rattle.oer_literals.proofs.Lists.{nothing_left, split_at}
use Rattle.oer_literals.proofs.Names.{number_here, number_past}
use Rattle.oer_literals.proofs.item.number_named.Goals as goal

pub returns-then-eq : goal.returns-then-eq
returns-then-eq c =
    let l = c.loop-item in
    let x = c.item-item.result in
    let name = c.args.name.now in
    let split = split_at c.args.items.now l.item-index x c.loop-item-test.true c.item-item.is in
    let h : bytes_eq (string_bytes x.name) name ≡ true = sym (ap (λ s. bytes_eq s name) c.as_str.ensures.value) ∙ sym c.eq.ensures ∙ c.if-eq.true in
    let found = sym (l.invariant ∙ ap (λ ds. number_named (map named_number ds) name) split ∙ number_here (named_number x) _ name h) in
    grind (arith, to_z-of_z)

pub loop-item-preserved : goal.loop-item-preserved
loop-item-preserved c =
    let l = c.loop-item in
    let x = c.item-item.result in
    let name = c.args.name.now in
    let split = split_at c.args.items.now l.item-index x c.loop-item-test.true c.item-item.is in
    let h : bytes_eq (string_bytes x.name) name ≡ false = sym (ap (λ s. bytes_eq s name) c.as_str.ensures.value) ∙ sym c.eq.ensures ∙ c.if-eq.false in
    rw add-one (l.invariant ∙ ap (λ ds. number_named (map named_number ds) name) split ∙ number_past (named_number x) _ name h)

pub returns : goal.returns
returns c =
    let l = c.loop-item in
    sym (l.invariant ∙ ap (λ ds. number_named (map named_number ds) c.args.name.now) (nothing_left c.args.items.now l.item-index c.loop-item-test.false))

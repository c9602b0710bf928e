use Rattle.std.proofs.Common.{sym, ◌∙◌, ap, arith}
use Rattle.std.proofs.lemmas.Grind.{common_steps}
use Rattle.oer_model.specs.AsnValue.{chosen}
use Rattle.oer_values.specs.ShapeView.{choice_with}
use Rattle.oer_values.specs.ValueView.{value_of}
use Rattle.oer_values.proofs.Shapes.{type_of-Choice}
use Rattle.oer_values.proofs.Values.{value_of-Chosen}
use Rattle.oer_skeleton.proofs.Components.{addition_items, addition_smaller, additions_are, field_items, field_size, fields_are}
use Rattle.oer_skeleton.proofs.Taken.{choice_items, choice_skeleton, is_choice_full, taken_smaller}
use Rattle.oer_skeleton.specs.Sound.{HasItems}
use Rattle.oer_skeleton.proofs.skeleton.+skeleton.Goals as goal

pub fields-component-requires : goal.fields-component-requires
fields-component-requires t c = (
  let l = field_size c.args.fields.now c.loop-field.field-index c.field-item.result c.loop-field-test.true c.field-item.is in omega (arith, l, c.decreases),
  field_items c.args.fields.now c.loop-field.field-index c.field-item.result c.loop-field-test.true c.field-item.is c.requires,
)

pub fields-returns : goal.fields-returns
fields-returns t c = let e = fields_are c.args.parts c.args.fields.now in grind (arith, common_steps, e)

pub added-optional-requires : goal.added-optional-requires
added-optional-requires t c =
    let at = c.loop-addition.addition-index in
    let here = c.loop-addition-test.true in
    let l = addition_smaller c.args.additions.now at c.addition-item.result here c.addition-item.is in
    (omega (arith, l, c.decreases), addition_items c.args.additions.now at c.addition-item.result here c.addition-item.is c.requires)

pub added-returns : goal.added-returns
added-returns t c = let e = additions_are c.args.parts c.args.additions.now in grind (arith, common_steps, e)

pub skeleton-taken-alternative-requires : goal.skeleton-taken-alternative-requires
skeleton-taken-alternative-requires t c =
    let at = c.in-Choice in
    rw c.deref-in-Choice.ensures.value (is_choice_full at.root.items at.additions (rw (at.is, type_of-Choice) at c.requires))

pub skeleton-skeleton-requires : goal.skeleton-skeleton-requires
skeleton-skeleton-requires t c =
    let at = c.in-Choice in
    let e = rw c.deref-in-Choice.ensures.value at c.taken-alternative.ensures in
    let h : HasItems (choice_with at.root.items at.additions) = rw (at.is, type_of-Choice) at c.requires in (
      let l = taken_smaller _ c.args.shape.now at.root at.additions c.taken-alternative.result.now at.is e in omega (arith, l, c.decreases),
      choice_items at.root.items c.taken-alternative.result.now e c.args.parts at.additions h,
    )

pub skeleton-returns-in_ok-new-in-Choice : goal.skeleton-returns-in_ok-new-in-Choice
skeleton-returns-in_ok-new-in-Choice t c =
    let at = c.in-Choice in
    let a = c.taken-alternative.result.now in
    let e = rw c.deref-in-Choice.ensures.value at c.taken-alternative.ensures in
    rw (at.is, type_of-Choice, value_of-Chosen a.tag c.in_ok-new-in-Choice.field-0)
    (ap (chosen a.tag) (ap value_of c.in_ok-new-in-Choice.ensures.ok ∙ c.in_ok-value-in-Choice.ensures)
    ∙ sym (choice_skeleton at.root.items a e c.args.parts at.additions))

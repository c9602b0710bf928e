use Rattle.std.proofs.Common.{arith}
use Rattle.std.proofs.lemmas.Grind.{common_steps}
use Rattle.oer_values.specs.ShapeView.{choice_with}
use Rattle.oer_values.proofs.Shapes.{type_of-Choice}
use Rattle.oer_skeleton.proofs.Components.{addition_items, addition_smaller, field_items, field_size}
use Rattle.oer_skeleton.proofs.Taken.{choice_items, choice_weight, is_choice_full, taken_smaller}
use Rattle.oer_skeleton.specs.Sound.{HasItems}
use Rattle.oer_skeleton.proofs.weight.+weight.Goals as goal

pub weigh_fields-weigh_component-requires : goal.weigh_fields-weigh_component-requires
weigh_fields-weigh_component-requires t c = (
  let l = field_size c.args.fields.now c.loop-field.field-index c.field-item.result c.loop-field-test.true c.field-item.is in omega (arith, l, c.decreases),
  field_items c.args.fields.now c.loop-field.field-index c.field-item.result c.loop-field-test.true c.field-item.is c.requires,
)

pub weigh_additions-weigh_optional-requires : goal.weigh_additions-weigh_optional-requires
weigh_additions-weigh_optional-requires t c =
    let at = c.loop-addition.addition-index in
    let here = c.loop-addition-test.true in
    let l = addition_smaller c.args.additions.now at c.addition-item.result here c.addition-item.is in
    (omega (arith, l, c.decreases), addition_items c.args.additions.now at c.addition-item.result here c.addition-item.is c.requires)

pub weigh-taken-requires : goal.weigh-taken-requires
weigh-taken-requires t c =
    let at = c.in-Choice in
    rw c.deref-in-Choice.ensures.value (is_choice_full at.root.items at.additions (rw (at.is, type_of-Choice) at c.requires))

pub weigh-weigh-requires : goal.weigh-weigh-requires
weigh-weigh-requires t c =
    let at = c.in-Choice in
    let e = rw c.deref-in-Choice.ensures.value at c.taken.ensures in
    let h : HasItems (choice_with at.root.items at.additions) = rw (at.is, type_of-Choice) at c.requires in (
      let l = taken_smaller _ c.args.shape.now at.root at.additions c.taken.result.now at.is e in omega (arith, l, c.decreases),
      choice_items at.root.items c.taken.result.now e c.args.parts at.additions h,
    )

pub weigh-returns-in-Choice : goal.weigh-returns-in-Choice
weigh-returns-in-Choice t c =
    let at = c.in-Choice in
    let e = rw c.deref-in-Choice.ensures.value at c.taken.ensures in
    let w = choice_weight at.root.items c.taken.result.now e c.args.parts at.additions in
    rw (at.is, type_of-Choice) (grind (arith, common_steps, w))

use Rattle.std.proofs.Common.{arith}
use Rattle.std.proofs.lemmas.Grind.{common_steps}
use Rattle.oer_values.specs.ShapeView.{choice_with, type_of}
use Rattle.oer_values.proofs.Shapes.{type_of-Choice, type_of-SequenceOf}
use Rattle.oer_skeleton.specs.Sound.{HasItems}
use Rattle.oer_skeleton.proofs.Components.{addition_items, addition_smaller, field_items, field_size}
use Rattle.oer_skeleton.proofs.Taken.{is_choice_full}
use Rattle.oer_random.specs.Weight.{total, weight}
use Rattle.oer_random.specs.Words.{words}
use Rattle.oer_random.proofs.Loops.{list_step, list_weighed}
use Rattle.oer_random.proofs.Picking.{choice_items, choice_weight, picked_smaller}
use Rattle.oer_random.proofs.weight.+weight.Goals as goal

pub weigh_fields-weigh_component-requires : goal.weigh_fields-weigh_component-requires
weigh_fields-weigh_component-requires t c = (
  let l = field_size c.args.fields.now c.loop-field.field-index c.field-item.result c.loop-field-test.true c.field-item.is in omega (arith, l, c.decreases),
  field_items c.args.fields.now c.loop-field.field-index c.field-item.result c.loop-field-test.true c.field-item.is c.requires,
)

pub weigh_additions-weigh_optional-requires : goal.weigh_additions-weigh_optional-requires
weigh_additions-weigh_optional-requires t c =
    let at = c.loop-addition.addition-index in
    let here = c.loop-addition-test.true in
    let l = addition_smaller c.args.additions.now at c.addition-item.result here c.addition-item.is in
    (omega (arith, l, c.decreases), addition_items c.args.additions.now at c.addition-item.result here c.addition-item.is c.requires)

pub weigh-taken-alternative-requires : goal.weigh-taken-alternative-requires
weigh-taken-alternative-requires t c =
    let at = c.in-Choice in
    rw c.deref-in-Choice.ensures.value (is_choice_full at.root.items at.additions (rw (at.is, type_of-Choice) at c.requires))

pub weigh-weigh-requires : goal.weigh-weigh-requires
weigh-weigh-requires t c =
    let at = c.in-Choice in
    let e = rw (c.deref-in-Choice.ensures.value, c.known_later.ensures) at c.taken-alternative.ensures in
    let h : HasItems (choice_with at.root.items at.additions) = rw (at.is, type_of-Choice) at c.requires in (
      let l = picked_smaller _ c.args.shape.now at.root at.additions c.taken-alternative.result.now _ at.is e in omega (arith, l, c.decreases),
      choice_items _ at.root.items at.additions c.taken-alternative.result.now _ h e,
    )

pub weigh-returns-in-Choice : goal.weigh-returns-in-Choice
weigh-returns-in-Choice t c =
    let at = c.in-Choice in
    let e = rw (c.deref-in-Choice.ensures.value, c.known_later.ensures) at c.taken-alternative.ensures in
    let w = choice_weight c.args.room c.args.seed at.root.items at.additions c.taken-alternative.result.now e in
    rw (at.is, type_of-Choice) (grind (arith, common_steps, w))

pub weigh_list-loop-preserved : goal.weigh_list-loop-preserved
weigh_list-loop-preserved t c =
    list_step (λ x. weight c.args.room x (type_of c.args.item.now)) c.args.count c.loop.counter c.loop.rng c.next.result c.next.new.rng c.loop.left c.in-Some.rest
    (total (λ x. weight c.args.room x (type_of c.args.item.now)) (words c.args.count c.args.seed)) c.args.left
    c.loop-test.true c.next.ensures.word c.next.ensures.rest c.in-Some.ensures c.loop.invariant

pub weigh-returns-in-SequenceOf : goal.weigh-returns-in-SequenceOf
weigh-returns-in-SequenceOf t c =
    let at = c.in-SequenceOf in
    rw (at.is, type_of-SequenceOf)
    (list_weighed c.weigh_list.result c.args.left c.args.room c.args.seed c.saturating_sub.result c.elements-count.result c.is_legal.result at.size
    c.deref-in-SequenceOf.result.now c.deref-in-SequenceOf-2.result.now at.item.value c.if-left-eq0.false c.deref-in-SequenceOf.ensures c.is_legal.ensures
    c.deref-in-SequenceOf-2.ensures c.saturating_sub.ensures c.elements-count.ensures c.weigh_list.ensures)

use Rattle.std.proofs.Common.{◌+◌, drop, sym, ◌∙◌, ap, arith}
use Rattle.oer_model.specs.AsnValue.{chosen}
use Rattle.oer_values.specs.ShapeView.{additions_of, choice_with, fields_of, type_of}
use Rattle.oer_values.specs.ValueView.{attached, value_of}
use Rattle.oer_values.proofs.Shapes.{type_of-Choice}
use Rattle.oer_values.proofs.Values.{value_of-Chosen}
use Rattle.oer_skeleton.specs.Sound.{HasItems}
use Rattle.oer_skeleton.proofs.Components.{addition_items, addition_smaller, field_items, field_size}
use Rattle.oer_skeleton.proofs.Taken.{is_choice_full}
use Rattle.oer_random.specs.Drawn.{drawn, drawn_additions, drawn_fields}
use Rattle.oer_random.proofs.Loops.{additions_end, additions_step, fields_end, fields_step}
use Rattle.oer_random.proofs.Picking.{choice_drawn, choice_items, picked_smaller}
use Rattle.oer_random.proofs.drawn.+drawn.Goals as goal

pub fields-component-requires : goal.fields-component-requires
fields-component-requires t c = (
  let l = field_size c.args.fields.now c.loop-field.field-index c.field-item.result c.loop-field-test.true c.field-item.is in omega (arith, l, c.decreases),
  field_items c.args.fields.now c.loop-field.field-index c.field-item.result c.loop-field-test.true c.field-item.is c.requires,
)

pub fields-loop-field-preserved : goal.fields-loop-field-preserved
fields-loop-field-preserved t c =
    let l = c.loop-field in
    ap (λ ps. attached ps (drawn_fields c.args.room c.next.new.rng (fields_of (drop (l.field-index + 1) c.args.fields.now)))) c.in_ok-push.ensures.items
    ∙ fields_step c.args.room l.field-index l.rng c.next.result c.next.new.rng l.places.items c.in_ok-component.field-0 c.next.ensures.word c.next.ensures.rest
    c.args.fields.now c.field-item.result c.loop-field-test.true c.field-item.is c.in_ok-component.ensures
    ∙ l.invariant

pub fields-returns : goal.fields-returns
fields-returns t c =
    let l = c.loop-field in fields_end c.args.room l.field-index l.rng c.args.fields.now l.places.items _ c.loop-field-test.false l.invariant

pub added-optional-requires : goal.added-optional-requires
added-optional-requires t c =
    let at = c.loop-addition.addition-index in
    let here = c.loop-addition-test.true in
    let l = addition_smaller c.args.additions.now at c.addition-item.result here c.addition-item.is in
    (omega (arith, l, c.decreases), addition_items c.args.additions.now at c.addition-item.result here c.addition-item.is c.requires)

pub added-loop-addition-preserved : goal.added-loop-addition-preserved
added-loop-addition-preserved t c =
    let l = c.loop-addition in
    ap (λ ps. attached ps (drawn_additions c.args.room c.next.new.rng (additions_of (drop (l.addition-index + 1) c.args.additions.now)))) c.in_ok-push.ensures.items
    ∙ additions_step c.args.room l.addition-index l.rng c.next.result c.next.new.rng l.places.items c.in_ok-optional.field-0 c.next.ensures.word c.next.ensures.rest
    c.args.additions.now c.addition-item.result c.loop-addition-test.true c.addition-item.is c.in_ok-optional.ensures
    ∙ l.invariant

pub added-returns : goal.added-returns
added-returns t c =
    let l = c.loop-addition in additions_end c.args.room l.addition-index l.rng c.args.additions.now l.places.items _ c.loop-addition-test.false l.invariant

pub drawn-taken-alternative-requires : goal.drawn-taken-alternative-requires
drawn-taken-alternative-requires t c =
    let at = c.in-Choice in
    rw c.deref-in-Choice.ensures.value (is_choice_full at.root.items at.additions (rw (at.is, type_of-Choice) at c.requires))

pub drawn-drawn-requires : goal.drawn-drawn-requires
drawn-drawn-requires t c =
    let at = c.in-Choice in
    let e = rw (c.deref-in-Choice.ensures.value, c.known_later.ensures) at c.taken-alternative.ensures in
    let h : HasItems (choice_with at.root.items at.additions) = rw (at.is, type_of-Choice) at c.requires in (
      let l = picked_smaller _ c.args.shape.now at.root at.additions c.taken-alternative.result.now _ at.is e in omega (arith, l, c.decreases),
      choice_items _ at.root.items at.additions c.taken-alternative.result.now _ h e,
    )

pub drawn-returns-in_ok-new-in-Choice : goal.drawn-returns-in_ok-new-in-Choice
drawn-returns-in_ok-new-in-Choice t c =
    let at = c.in-Choice in
    let a = c.taken-alternative.result.now in
    let e = rw (c.deref-in-Choice.ensures.value, c.known_later.ensures) at c.taken-alternative.ensures in
    rw (at.is, type_of-Choice, value_of-Chosen a.tag c.in_ok-new-in-Choice.field-0)
    (ap (chosen a.tag) (ap value_of c.in_ok-new-in-Choice.ensures.ok ∙ c.in_ok-value-in-Choice.ensures ∙ ap (λ s. drawn c.args.room s (type_of a.shape)) c.word.ensures)
    ∙ sym (choice_drawn c.args.room c.args.seed at.root.items at.additions a e))

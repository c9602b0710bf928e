use Rattle.std.proofs.Common.{◌≡◌, ◌∷◌, drop, suc, map, ap, sym, ◌∙◌, drop-cons, add-one, arith}
use Rattle.std.proofs.lemmas.Grind.{common_steps}
use Rattle.oer_model.specs.AsnValue.{chosen, items}
use Rattle.oer_model.specs.Filling.{filled}
use Rattle.oer_values.specs.ShapeView.{choice_with, seen_field, seen_addition, type_of}
use Rattle.oer_values.proofs.Shapes.{type_of-SequenceOf, type_of-Choice}
use Rattle.oer_values.proofs.Values.{value_of-List, value_of-Chosen}
use Rattle.oer_values.proofs.FillSteps.{field_step, addition_step, fields_done, additions_done, mapped_values}
use Rattle.oer_values.proofs.Lookups.{filled_found, filled_nowhere, found_falls}
use Rattle.oer_values.specs.ValueView.{value_of}
use Rattle.oer_values.proofs.defaults.+fill_in.Goals as goal
use Rattle.oer_values.proofs.defaults.+fill_in.Goals.{fill_in-in-Some+in_ok-filled-in-Some, fill_in-in-None+in_ok-filled-in-None}

pub fill_fields-loop-field-preserved : goal.fill_fields-loop-field-preserved
fill_fields-loop-field-preserved t c =
    let l = c.loop-field in
    let after = drop (suc l.field-index) c.args.fields.now in
    let first : drop l.field-index c.args.fields.now ≡ c.field-item.result ∷ after = drop-cons c.args.fields.now l.field-index c.field-item.result c.loop-field-test.true ∙ ap (λ x. x ∷ after) (sym c.field-item.is) in
    rw (c.in_ok-push.ensures.items, add-one)
    (field_step (seen_field c.field-item.result) (map seen_field after) c.in-Some.place.now c.in_ok-fill_place.field-0 l.copies.items c.in-Some.more.now c.in_ok-fill_place.ensures ∙ rw (first, c.in-Some.ensures.cases.0) at l.invariant)

pub fill_fields-returns-in_default : goal.fill_fields-returns-in_default
fill_fields-returns-in_default t c =
    let l = c.loop-field in
    let after = drop (suc l.field-index) c.args.fields.now in
    let first : drop l.field-index c.args.fields.now ≡ c.field-item.result ∷ after = drop-cons c.args.fields.now l.field-index c.field-item.result c.loop-field-test.true ∙ ap (λ x. x ∷ after) (sym c.field-item.is) in
    fields_done (seen_field c.field-item.result) (map seen_field after) l.copies.items l.rest.now c.in_default.ensures.cases ∙ rw first at l.invariant

pub fill_additions-loop-addition-preserved : goal.fill_additions-loop-addition-preserved
fill_additions-loop-addition-preserved t c =
    let l = c.loop-addition in
    let after = drop (suc l.addition-index) c.args.additions.now in
    let first : drop l.addition-index c.args.additions.now ≡ c.addition-item.result ∷ after = drop-cons c.args.additions.now l.addition-index c.addition-item.result c.loop-addition-test.true ∙ ap (λ x. x ∷ after) (sym c.addition-item.is) in
    rw (c.in_ok-push.ensures.items, add-one)
    (addition_step (seen_addition c.addition-item.result) (map seen_addition after) c.in-Some.place.now c.in_ok-fill_addition.field-0 l.copies.items c.in-Some.more.now c.in_ok-fill_addition.ensures ∙ rw (first, c.in-Some.ensures.cases.0) at l.invariant)

pub fill_additions-returns-in_default : goal.fill_additions-returns-in_default
fill_additions-returns-in_default t c =
    let l = c.loop-addition in
    let after = drop (suc l.addition-index) c.args.additions.now in
    let first : drop l.addition-index c.args.additions.now ≡ c.addition-item.result ∷ after = drop-cons c.args.additions.now l.addition-index c.addition-item.result c.loop-addition-test.true ∙ ap (λ x. x ∷ after) (sym c.addition-item.is) in
    additions_done (seen_addition c.addition-item.result) (map seen_addition after) l.copies.items l.rest.now c.in_default.ensures.cases ∙ rw first at l.invariant

pub fill_in-returns-in_ok-fill_values-in-SequenceOf-List : goal.fill_in-returns-in_ok-fill_values-in-SequenceOf-List
fill_in-returns-in_ok-fill_values-in-SequenceOf-List t c =
    let at = c.in-SequenceOf-List in
    let made = c.in_ok-fill_values-in-SequenceOf-List in
    rw (at.is-0, at.is-1, type_of-SequenceOf, value_of-List made.field-0, value_of-List at.values)
    (ap items (rw (c.deref-in-SequenceOf-List.ensures, c.deref-in-SequenceOf-List-2.ensures.value) at made.ensures))

pub fill_values-returns : goal.fill_values-returns
fill_values-returns t c =
    let l = c.loop-value in
    mapped_values (filled (type_of c.args.item.now)) l.copies.items c.args.values.now (grind (arith, common_steps))

pub fill_in-returns-in_ok-value-in-Choice-Chosen : goal.fill_in-returns-in_ok-value-in-Choice-Chosen
fill_in-returns-in_ok-value-in-Choice-Chosen t c =
    let at = c.in-Choice-Chosen in
    let made = c.in_ok-value-in-Choice-Chosen in
    let v = value_of at.value.value in
    let is : chosen at.tag (value_of c.match-find_alternative.filled) ≡ filled (choice_with at.root.items at.additions) (chosen at.tag v) = elim c.match-find_alternative.branch [
      | fill_in-in-Some+in_ok-filled-in-Some w ↦
          let e = rw c.deref-in-Choice-Chosen.ensures.value at w.in-Some.ensures in
          let f = rw w.deref-in-Some.ensures at w.in_ok-filled-in-Some.ensures in
          ap (chosen at.tag) (ap value_of w.filled-is ∙ f) ∙ sym (filled_found at.tag v at.root.items at.additions w.in-Some.alternative.now e)
      | fill_in-in-None+in_ok-filled-in-None w ↦
          let e = rw c.deref-in-Choice-Chosen.ensures.value at w.in-None.ensures in
          let f = rw w.deref-in-None.ensures at w.in_ok-filled-in-None.ensures in
          ap (chosen at.tag) (ap value_of w.filled-is ∙ f) ∙ sym (filled_nowhere at.tag v at.root.items at.additions e)
    ] in
    rw (at.is-0, at.is-1, type_of-Choice, value_of-Chosen at.tag made.value, value_of-Chosen at.tag at.value)
    (ap (chosen at.tag) (ap value_of made.ensures.ok) ∙ is)

-- measures
pub fill_in-fill_in-requires : goal.fill_in-fill_in-requires
fill_in-fill_in-requires t c =
    let at = c.in-Choice-Chosen in
    let e = rw c.deref-in-Choice-Chosen.ensures.value at c.in-Some.ensures in
    (found_falls at.tag c.args.shape.now at.root at.additions c.in-Some.alternative.now t at.is-0 e c.decreases, tt)

-- the tactic that proves each, so that no other is tried before it
pub fill_addition-returns-in-None : goal.fill_addition-returns-in-None
fill_addition-returns-in-None t c = grind (arith, common_steps)

pub fill_addition-returns-in_ok-fill_in-in-Some : goal.fill_addition-returns-in_ok-fill_in-in-Some
fill_addition-returns-in_ok-fill_in-in-Some t c = grind (arith, common_steps)

pub fill_additions-returns : goal.fill_additions-returns
fill_additions-returns t c = grind (arith, common_steps)

pub fill_fields-returns : goal.fill_fields-returns
fill_fields-returns t c = grind (arith, common_steps)

pub fill_place-returns-in_ok-fill_in-in-Some : goal.fill_place-returns-in_ok-fill_in-in-Some
fill_place-returns-in_ok-fill_in-in-Some t c = grind (arith, common_steps)

pub fill_place-returns-in_ok-fill_in-in-Default : goal.fill_place-returns-in_ok-fill_in-in-Default
fill_place-returns-in_ok-fill_in-in-Default t c = grind (arith, common_steps)

pub fill_place-returns-in_default : goal.fill_place-returns-in_default
fill_place-returns-in_default t c = grind (arith, common_steps)

pub fill_values-loop-value-preserved : goal.fill_values-loop-value-preserved
fill_values-loop-value-preserved t c = grind (arith, common_steps)

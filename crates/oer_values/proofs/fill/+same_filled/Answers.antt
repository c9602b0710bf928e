use Rattle.std.proofs.Common.{suc, map, drop, get_or, drop-cons, arith}
use Rattle.std.proofs.lemmas.Grind.{common_steps}
use Rattle.std.proofs.lemmas.List.{drop_all}
use Rattle.oer_values.proofs.Shapes.{type_of-Sequence, type_of-SequenceOf, type_of-Choice}
use Rattle.oer_values.proofs.Values.{value_of-Seq, value_of-List, value_of-Chosen}
use Rattle.oer_values.proofs.FillSteps.{◌then◌, no_field_left, no_addition_left, no_values_left, items-same, tags_differ_not, sequence_filled, same_chosen}
use Rattle.oer_values.proofs.Lookups.{filled_found, filled_nowhere, found_falls}
use Rattle.oer_model.specs.Filling.{filled}
use Rattle.oer_values.specs.ShapeView.{type_of, choice_with, seen_field, seen_addition}
use Rattle.oer_values.specs.ValueView.{value_of}
use Rattle.oer_values.proofs.fill.+same_filled.Goals as goal

pub same_filled_additions-returns-in_default : goal.same_filled_additions-returns-in_default
same_filled_additions-returns-in_default t c =
    let l = c.loop-addition in
    let first = drop-cons c.args.additions.now l.addition-index c.addition-item.result c.loop-addition-test.true in
    let left = rw first at l.invariant in
    no_addition_left (seen_addition (get_or c.args.additions.now l.addition-index c.addition-item.result)) (map seen_addition (drop (suc l.addition-index) c.args.additions.now)) l.rest_a.now l.rest_b.now c.is_empty.result c.in_default.ensures.cases c.is_empty.ensures then left

pub same_filled_fields-returns-in_default : goal.same_filled_fields-returns-in_default
same_filled_fields-returns-in_default t c =
    let l = c.loop-field in
    let first = drop-cons c.args.fields.now l.field-index c.field-item.result c.loop-field-test.true in
    let left = rw first at l.invariant in
    no_field_left (seen_field (get_or c.args.fields.now l.field-index c.field-item.result)) (map seen_field (drop (suc l.field-index) c.args.fields.now)) l.rest_a.now l.rest_b.now c.is_empty.result c.in_default.ensures.cases c.is_empty.ensures then left

pub same_filled_values-returns : goal.same_filled_values-returns
same_filled_values-returns t c =
    let l = c.loop-one in
    no_values_left (filled (type_of c.args.item.now)) l.rest.now c.is_empty.result c.is_empty.ensures then rw (drop_all l.one-index c.args.ones.now c.loop-one-test.false) at l.invariant

pub same_filled_at-returns-in-SequenceOf-List-List : goal.same_filled_at-returns-in-SequenceOf-List-List
same_filled_at-returns-in-SequenceOf-List-List t c =
    let at = c.in-SequenceOf-List-List in
    rw (at.is-0, at.is-1, at.is-2, type_of-SequenceOf, value_of-List at.a, value_of-List at.b)
    (rw (c.deref-in-SequenceOf-List-List.ensures, c.deref-in-SequenceOf-List-List-2.ensures.value, c.deref-in-SequenceOf-List-List-3.ensures.value) at c.same_filled_values.ensures then items-same _ _)

pub same_filled_at-returns-then-not-same_unknown : goal.same_filled_at-returns-then-not-same_unknown
same_filled_at-returns-then-not-same_unknown t c =
    let at = c.in-Sequence-Seq-Seq in
    rw (at.is-0, at.is-1, at.is-2, type_of-Sequence, value_of-Seq, value_of-Seq, sequence_filled, sequence_filled) (grind (arith, common_steps))

pub same_filled_at-returns-else-not-same_filled_fields : goal.same_filled_at-returns-else-not-same_filled_fields
same_filled_at-returns-else-not-same_filled_fields t c =
    let at = c.in-Sequence-Seq-Seq in
    rw (at.is-0, at.is-1, at.is-2, type_of-Sequence, value_of-Seq, value_of-Seq, sequence_filled, sequence_filled) (grind (arith, common_steps))

pub same_filled_at-returns-in-Some : goal.same_filled_at-returns-in-Some
same_filled_at-returns-in-Some t c =
    let at = c.in-Choice-Chosen-Chosen in
    let x = c.in-Some.alternative.now in
    let e = tags_differ_not at.s at.t _ c.ne.ensures c.if-ne.false in
    let h = rw c.deref-in-Choice-Chosen-Chosen.ensures.value at c.in-Some.ensures in
    rw (at.is-0, at.is-1, at.is-2, type_of-Choice, value_of-Chosen at.s at.a, value_of-Chosen at.t at.b)
    (rw (c.deref-in-Some.ensures, c.deref-in-Some-2.ensures) at c.same_filled_at.ensures
    then same_chosen at.s at.t _ _ _ _ (choice_with at.root.items at.additions) e (filled_found at.t (value_of at.a.value) at.root.items at.additions x h) (filled_found at.t (value_of at.b.value) at.root.items at.additions x h))

pub same_filled_at-returns-in-None : goal.same_filled_at-returns-in-None
same_filled_at-returns-in-None t c =
    let at = c.in-Choice-Chosen-Chosen in
    let e = tags_differ_not at.s at.t _ c.ne.ensures c.if-ne.false in
    let h = rw c.deref-in-Choice-Chosen-Chosen.ensures.value at c.in-None.ensures in
    rw (at.is-0, at.is-1, at.is-2, type_of-Choice, value_of-Chosen at.s at.a, value_of-Chosen at.t at.b)
    (rw (c.deref-in-None.ensures, c.deref-in-None-2.ensures) at c.same.ensures
    then same_chosen at.s at.t _ _ _ _ (choice_with at.root.items at.additions) e (filled_nowhere at.t (value_of at.a.value) at.root.items at.additions h) (filled_nowhere at.t (value_of at.b.value) at.root.items at.additions h))

-- measures
pub same_filled_at-same_filled_at-requires : goal.same_filled_at-same_filled_at-requires
same_filled_at-same_filled_at-requires t c =
    let at = c.in-Choice-Chosen-Chosen in
    let h = rw c.deref-in-Choice-Chosen-Chosen.ensures.value at c.in-Some.ensures in
    (found_falls at.t c.args.shape.now at.root at.additions c.in-Some.alternative.now t at.is-0 h c.decreases, tt)

-- the tactic that proves each, so that no other is tried before it
pub same_filled_additions-returns-in_default-split_first : goal.same_filled_additions-returns-in_default-split_first
same_filled_additions-returns-in_default-split_first t c = grind (arith, common_steps)

pub same_filled_additions-returns-in_default-2 : goal.same_filled_additions-returns-in_default-2
same_filled_additions-returns-in_default-2 t c = grind (arith, common_steps)

pub same_filled_additions-returns-in_default-2-2 : goal.same_filled_additions-returns-in_default-2-2
same_filled_additions-returns-in_default-2-2 t c = grind (arith, common_steps)

pub same_filled_additions-returns-in_default-2-3 : goal.same_filled_additions-returns-in_default-2-3
same_filled_additions-returns-in_default-2-3 t c = grind (arith, common_steps)

pub same_filled_additions-loop-addition-preserved : goal.same_filled_additions-loop-addition-preserved
same_filled_additions-loop-addition-preserved t c = grind (arith, common_steps)

pub same_filled_additions-returns : goal.same_filled_additions-returns
same_filled_additions-returns t c = grind (arith, common_steps)

pub same_filled_fields-returns-in_default-split_first : goal.same_filled_fields-returns-in_default-split_first
same_filled_fields-returns-in_default-split_first t c = grind (arith, common_steps)

pub same_filled_fields-returns-then-not-same_filled_place : goal.same_filled_fields-returns-then-not-same_filled_place
same_filled_fields-returns-then-not-same_filled_place t c = grind (arith, common_steps)

pub same_filled_fields-loop-field-preserved : goal.same_filled_fields-loop-field-preserved
same_filled_fields-loop-field-preserved t c = grind (arith, common_steps)

pub same_filled_fields-returns : goal.same_filled_fields-returns
same_filled_fields-returns t c = grind (arith, common_steps)

pub same_filled_place-returns-in-None-None : goal.same_filled_place-returns-in-None-None
same_filled_place-returns-in-None-None t c = grind (arith, common_steps)

pub same_filled_place-returns-in-Some-Some : goal.same_filled_place-returns-in-Some-Some
same_filled_place-returns-in-Some-Some t c = grind (arith, common_steps)

pub same_filled_place-returns-in_default : goal.same_filled_place-returns-in_default
same_filled_place-returns-in_default t c = grind (arith, common_steps)

pub same_filled_place-returns-in_default-2 : goal.same_filled_place-returns-in_default-2
same_filled_place-returns-in_default-2 t c = grind (arith, common_steps)

pub same_filled_values-returns-in_default : goal.same_filled_values-returns-in_default
same_filled_values-returns-in_default t c = grind (arith, common_steps)

pub same_filled_values-returns-then-not-same_filled_at : goal.same_filled_values-returns-then-not-same_filled_at
same_filled_values-returns-then-not-same_filled_at t c = grind (arith, common_steps)

pub same_filled_values-loop-one-preserved : goal.same_filled_values-loop-one-preserved
same_filled_values-loop-one-preserved t c = grind (arith, common_steps)

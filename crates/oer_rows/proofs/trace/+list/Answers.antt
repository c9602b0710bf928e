use Rattle.std.proofs.Common.{◌∙◌, Global, Option, Vec, Some, Ok, Err, ◌-◌, ◌+◌, ◌++◌, ◌∷◌, [], true, false, arith, rules, refl, sym, ap}
use Rattle.oer_model.specs.AsnType.{no_alternatives}
use Rattle.oer_model.specs.Parts.{to_addition, to_chosen, to_component, to_item}
use Rattle.oer_values.specs.ShapeView.{additions_of, fields_of, later_of, root_of, type_of}
use Rattle.oer_values.specs.declared.shape.Addition.{Addition}
use Rattle.oer_values.specs.declared.shape.Shape.{Sequence}
use Rattle.oer_checker.specs.BitView.{bits_in}
use Rattle.oer_checker.specs.Places.{counted_as, place_of}
use Rattle.oer_rows.specs.Rows.{path_in, stuck, walk_later, walk_open, walk_value}
use Rattle.oer_rows.specs.declared.row.Halt.TheVariants.{Refused}
use Rattle.oer_values.proofs.Lookups.{first_falls}
use Rattle.oer_checker.proofs.Exits.{at_stop}
use Rattle.oer_rows.proofs.LineSteps.{additions_end, additions_next, additions_stop, at_inner, bits_stop, both_stop, both_then, choice_later, choice_none, choice_root, comes_on, extension_none, extension_stop, extension_then, fields_end, fields_next, fields_stop, here, if_not, if_so, inside_ends, inside_left, inside_stop, later_found, later_none, no_inner, root_stop, root_then, row_stop, row_then, same_walks, sticks, tag_stop, tag_then, then_walks, times_end, times_next, times_start, times_stop, type_arm}
use Rattle.oer_checker.proofs.Sizes.{additions_fall, alternative_falls, fields_fall, later_fall}
use Rattle.oer_checker.proofs.ShapeCases.{is_leaf}
use Rattle.oer_checker.proofs.TypeSteps.{as_choice, as_closed, as_extensible, as_open}
use Rattle.oer_rows.proofs.trace.+list.Goals as goal

-- ---- one unit, and what follows it

pub list_items-returns-in_err-counted : goal.list_items-returns-in_err-counted
list_items-returns-in_err-counted g t c =
    rw (at_stop c.from_residual.result c.in_err-counted.field-0.0 c.from_residual.ensures.1)
    (row_stop g.T.TakeRow.takes counted_as c.args.spot.now _ _ _ c.args.cursor _ _ _ _ c.sized_quantity_at-answer.ensures
    _ c.in_err-counted.ensures)

pub list_items-returns : goal.list_items-returns
list_items-returns g t c =
    then_walks g.T.TakeRow.takes c.list_elements.result _ _ _ _ _ _ _
    (row_then g.T.TakeRow.takes counted_as c.args.spot.now _ _ _ c.args.cursor _ _ _ _ c.sized_quantity_at-answer.ensures
    _ c.in_ok-counted.ensures)
    c.list_elements.ensures

pub list_sequence-returns-in_err-bits : goal.list_sequence-returns-in_err-bits
list_sequence-returns-in_err-bits g t c =
    rw (at_stop c.from_residual.result c.in_err-bits.field-0.0 c.from_residual.ensures.1)
    (row_stop g.T.TakeRow.takes bits_in c.args.spot.now _ _ _ c.args.cursor _ _ _ _ (rw c.optional.ensures.is at c.preamble-answer.ensures)
    _ c.in_err-bits.ensures)

pub list_sequence-returns : goal.list_sequence-returns
list_sequence-returns g t c =
    then_walks g.T.TakeRow.takes c.list_fields.result _ _ _ _ _ _ _
    (row_then g.T.TakeRow.takes bits_in c.args.spot.now _ _ _ c.args.cursor _ _ _ _ (rw c.optional.ensures.is at c.preamble-answer.ensures)
    _ c.in_ok-bits.ensures)
    c.list_fields.ensures

-- ---- components

pub list_field-returns-then-not-is_present : goal.list_field-returns-then-not-is_present
list_field-returns-then-not-is_present g t c = if_not g.T.TakeRow.takes c.args.is_present _ _ c.args.cursor (search rules)

pub list_field-returns-in_err-inner : goal.list_field-returns-in_err-inner
list_field-returns-in_err-inner g t c =
    rw (at_stop c.from_residual.result c.in_err-inner.field-0.0 c.from_residual.ensures.1)
    (no_inner g.T.TakeRow.takes c.args.spot.now (to_component c.args.index) _ _ _ _ _ c.in_err-inner.ensures)

pub list_field-returns : goal.list_field-returns
list_field-returns g t c =
    if_so g.T.TakeRow.takes c.args.is_present _ _ _ _ c.list_shape.result (search rules)
    (at_inner g.T.TakeRow.takes (walk_value (type_of c.args.field.now.shape)) c.args.spot.now c.in_ok-inner.inner (to_component c.args.index)
    c.list_shape.result _ _ _ c.in_ok-inner.ensures c.list_shape.ensures)

pub list_fields-loop-field-init : goal.list_fields-loop-field-init
list_fields-loop-field-init g t c = (refl, here g.T.TakeRow.takes _ _ _ _ _ (λ ls. refl))

pub list_fields-loop-field-preserved : goal.list_fields-loop-field-preserved
list_fields-loop-field-preserved g t c = (
  omega arith,
  fields_next g.T.TakeRow.takes c.args.fields.now c.loop-field.field-index c.args.spot.now.total (path_in c.args.spot.now)
      (bits_in c.loop-field.left) _ _ _ _ c.field-item.result (bits_in c.presence-is_present.result.1) c.presence-is_present.result.0 _ _ c.loop-field-test.true c.field-item.is
      c.presence-is_present.ensures.there c.presence-is_present.ensures.left c.loop-field.invariant.1 c.in_ok-at.at
      (rw c.loop-field.invariant.0 at c.in_ok-at.ensures),
)

pub list_fields-returns-in_err-at : goal.list_fields-returns-in_err-at
list_fields-returns-in_err-at g t c =
    rw (at_stop c.from_residual.result c.in_err-at.field-0.0 c.from_residual.ensures.1)
    (fields_stop g.T.TakeRow.takes c.args.fields.now c.loop-field.field-index c.args.spot.now.total (path_in c.args.spot.now)
    (bits_in c.loop-field.left) _ _ _ _ c.field-item.result (bits_in c.presence-is_present.result.1) c.presence-is_present.result.0 _ _ c.loop-field-test.true c.field-item.is
    c.presence-is_present.ensures.there c.presence-is_present.ensures.left c.loop-field.invariant.1 _
    (rw c.loop-field.invariant.0 at c.in_err-at.ensures))

pub list_fields-returns : goal.list_fields-returns
list_fields-returns g t c =
    fields_end g.T.TakeRow.takes c.args.fields.now c.loop-field.field-index c.args.spot.now.total (path_in c.args.spot.now)
    (bits_in c.loop-field.left) _ _ _ _ c.loop-field.at c.loop-field-test.false c.loop-field.invariant.1

-- ---- additions

pub list_addition-returns-then-not-is_present : goal.list_addition-returns-then-not-is_present
list_addition-returns-then-not-is_present g t c = if_not g.T.TakeRow.takes c.args.is_present _ _ c.args.cursor (search rules)

pub list_addition-returns-in_err-inner : goal.list_addition-returns-in_err-inner
list_addition-returns-in_err-inner g t c =
    rw (at_stop c.from_residual.result c.in_err-inner.field-0.0 c.from_residual.ensures.1)
    (no_inner g.T.TakeRow.takes c.args.spot.now (to_addition c.args.index) _ _ _ _ _ c.in_err-inner.ensures)

pub list_addition-returns : goal.list_addition-returns
list_addition-returns g t c =
    if_so g.T.TakeRow.takes c.args.is_present _ _ _ _ c.list_open.result (search rules)
    (at_inner g.T.TakeRow.takes (λ total path. walk_open total path (walk_value (type_of c.args.addition.now.shape) total path))
    c.args.spot.now c.in_ok-inner.inner (to_addition c.args.index) c.list_open.result _ _ _ c.in_ok-inner.ensures c.list_open.ensures)

pub list_additions-loop-addition-init : goal.list_additions-loop-addition-init
list_additions-loop-addition-init g t c = (refl, here g.T.TakeRow.takes _ _ _ _ _ (λ ls. refl))

pub list_additions-loop-addition-preserved : goal.list_additions-loop-addition-preserved
list_additions-loop-addition-preserved g t c = (
  omega arith,
  additions_next g.T.TakeRow.takes c.args.additions.now c.loop-addition.addition-index c.args.spot.now.total (path_in c.args.spot.now)
      (bits_in c.loop-addition.left) _ _ _ _ c.addition-item.result (bits_in c.later-left.result) c.first-is_present.result _ _ c.loop-addition-test.true c.addition-item.is
      c.first-is_present.ensures c.later-left.ensures c.loop-addition.invariant.1 c.in_ok-at.at
      (rw c.loop-addition.invariant.0 at c.in_ok-at.ensures),
)

pub list_additions-returns-in_err-at : goal.list_additions-returns-in_err-at
list_additions-returns-in_err-at g t c =
    rw (at_stop c.from_residual.result c.in_err-at.field-0.0 c.from_residual.ensures.1)
    (additions_stop g.T.TakeRow.takes c.args.additions.now c.loop-addition.addition-index c.args.spot.now.total (path_in c.args.spot.now)
    (bits_in c.loop-addition.left) _ _ _ _ c.addition-item.result (bits_in c.later-left.result) c.first-is_present.result _ _ c.loop-addition-test.true c.addition-item.is
    c.first-is_present.ensures c.later-left.ensures c.loop-addition.invariant.1 _
    (rw c.loop-addition.invariant.0 at c.in_err-at.ensures))

pub list_additions-returns : goal.list_additions-returns
list_additions-returns g t c =
    additions_end g.T.TakeRow.takes c.args.additions.now c.loop-addition.addition-index c.args.spot.now.total (path_in c.args.spot.now)
    (bits_in c.loop-addition.left) _ _ _ _ c.loop-addition.at c.loop-addition-test.false c.loop-addition.invariant.1

pub list_extension-returns-then-not-is_extended : goal.list_extension-returns-then-not-is_extended
list_extension-returns-then-not-is_extended g t c =
    extension_none g.T.TakeRow.takes (additions_of c.args.additions.now) c.args.is_extended _ _ _ _ c.args.cursor (search rules)

pub list_extension-returns-in_err-map : goal.list_extension-returns-in_err-map
list_extension-returns-in_err-map g t c =
    rw (at_stop c.from_residual.result c.in_err-map.field-0.0 c.from_residual.ensures.1)
    (extension_stop g.T.TakeRow.takes c.args.additions.now c.args.is_extended c.args.spot.now _ _ _ c.args.cursor _ _ (search rules)
    c.addition_map-answer.ensures.bits c.in_err-map.field-0.0 c.in_err-map.ensures)

pub list_extension-returns-in_err-end : goal.list_extension-returns-in_err-end
list_extension-returns-in_err-end g t c =
    rw (at_stop c.from_residual-in_err-end.result c.in_err-end.field-0.0 c.from_residual-in_err-end.ensures.1)
    (then_walks g.T.TakeRow.takes (Err c.in_err-end.field-0.0) _ _ _ _ _ _ _ (extension_then g.T.TakeRow.takes c.args.additions.now c.args.is_extended c.args.spot.now _ _ _ c.args.cursor _ _ (search rules)
    c.addition_map-answer.ensures.bits _ c.in_ok-map.ensures)
    (both_stop g.T.TakeRow.takes _ _ _ _ _ c.in_err-end.field-0.0 c.in_err-end.ensures))

pub list_extension-returns : goal.list_extension-returns
list_extension-returns g t c =
    then_walks g.T.TakeRow.takes c.list_rest.result _ _ _ _ _ _ _ (extension_then g.T.TakeRow.takes c.args.additions.now c.args.is_extended c.args.spot.now _ _ _ c.args.cursor _ _ (search rules)
    c.addition_map-answer.ensures.bits _ c.in_ok-map.ensures)
    (then_walks g.T.TakeRow.takes c.list_rest.result _ _ _ _ _ _ _ (both_then g.T.TakeRow.takes _ _ _ _ _ c.in_ok-end.end c.in_ok-end.ensures)
    c.list_rest.ensures)

-- ---- elements

pub list_elements-loop-turn-init : goal.list_elements-loop-turn-init
list_elements-loop-turn-init g t c =
    times_start g.T.TakeRow.takes _ (λ i. walk_value (type_of c.args.item.now) c.args.spot.now.total (path_in c.args.spot.now ++ (to_item i ∷ []))) c.args.count _

pub list_elements-loop-turn-preserved : goal.list_elements-loop-turn-preserved
list_elements-loop-turn-preserved g t c =
    times_next g.T.TakeRow.takes (λ i. walk_value (type_of c.args.item.now) c.args.spot.now.total (path_in c.args.spot.now ++ (to_item i ∷ [])))
    (c.args.count - c.loop-turn.turn) c.loop-turn.turn _ _ _ _ (c.args.count - (c.loop-turn.turn + 1)) _ _ c.in_ok-at.at (omega arith) c.loop-turn.invariant
    (at_inner g.T.TakeRow.takes (walk_value (type_of c.args.item.now)) c.args.spot.now c.in_ok-inner.inner (to_item c.loop-turn.turn) (Ok c.in_ok-at.at) _ _ _
    c.in_ok-inner.ensures c.in_ok-at.ensures)

pub list_elements-returns-in_err-inner : goal.list_elements-returns-in_err-inner
list_elements-returns-in_err-inner g t c =
    rw (at_stop c.from_residual.result c.in_err-inner.field-0.0 c.from_residual.ensures.1)
    (no_inner g.T.TakeRow.takes c.args.spot.now (to_item c.loop-turn.turn) _ _ _ _ _ c.in_err-inner.ensures)

pub list_elements-returns-in_err-at : goal.list_elements-returns-in_err-at
list_elements-returns-in_err-at g t c =
    rw (at_stop c.from_residual-in_err-at.result c.in_err-at.field-0.0 c.from_residual-in_err-at.ensures.1)
    (times_stop g.T.TakeRow.takes (λ i. walk_value (type_of c.args.item.now) c.args.spot.now.total (path_in c.args.spot.now ++ (to_item i ∷ [])))
    (c.args.count - c.loop-turn.turn) c.loop-turn.turn _ _ _ _ (c.args.count - (c.loop-turn.turn + 1)) _ _ _ (omega arith) c.loop-turn.invariant
    (at_inner g.T.TakeRow.takes (walk_value (type_of c.args.item.now)) c.args.spot.now c.in_ok-inner.inner (to_item c.loop-turn.turn) (Err c.in_err-at.field-0.0) _ _ _
    c.in_ok-inner.ensures c.in_err-at.ensures))

pub list_elements-returns : goal.list_elements-returns
list_elements-returns g t c =
    times_end g.T.TakeRow.takes (λ i. walk_value (type_of c.args.item.now) c.args.spot.now.total (path_in c.args.spot.now ++ (to_item i ∷ [])))
    (c.args.count - c.loop-turn.turn) c.loop-turn.turn _ _ _ _ c.loop-turn.at (omega arith) c.loop-turn.invariant

-- ---- open types

pub list_open-returns-in_err-counted : goal.list_open-returns-in_err-counted
list_open-returns-in_err-counted g t c =
    rw (at_stop c.from_residual.result c.in_err-counted.field-0.0 c.from_residual.ensures.1)
    (row_stop g.T.TakeRow.takes counted_as c.args.spot.now _ _ _ c.args.cursor _ _ _ _ c.sized_length_at-answer.ensures
    _ c.in_err-counted.ensures)

pub list_open-returns-in_err-end : goal.list_open-returns-in_err-end
list_open-returns-in_err-end g t c =
    rw (at_stop c.from_residual-in_err-end.result c.in_err-end.field-0.0 c.from_residual-in_err-end.ensures.1)
    (then_walks g.T.TakeRow.takes (Err c.in_err-end.field-0.0) _ _ _ _ _ _ _ (row_then g.T.TakeRow.takes counted_as c.args.spot.now _ _ _ c.args.cursor _ _ _ _ c.sized_length_at-answer.ensures
    _ c.in_ok-counted.ensures)
    (inside_stop g.T.TakeRow.takes c.in_ok-counted.counted.count _ _ _ (place_of c.sized_length_at-answer.new.at) c.in_err-end.field-0.0 c.in_err-end.ensures))

pub list_open-returns-then-end-gt0 : goal.list_open-returns-then-end-gt0
list_open-returns-then-end-gt0 g t c =
    then_walks g.T.TakeRow.takes (Err Refused) _ _ _ _ _ _ _ (row_then g.T.TakeRow.takes counted_as c.args.spot.now _ _ _ c.args.cursor _ _ _ _ c.sized_length_at-answer.ensures
    _ c.in_ok-counted.ensures)
    (inside_left g.T.TakeRow.takes c.in_ok-counted.counted.count _ _ _ (place_of c.sized_length_at-answer.new.at) c.in_ok-end.end c.in_ok-end.ensures (omega arith))

pub list_open-returns : goal.list_open-returns
list_open-returns g t c =
    rw c.saturating_sub.ensures
    (comes_on g.T.TakeRow.takes _ _ _ _ _ _ _ _ _ (row_then g.T.TakeRow.takes counted_as c.args.spot.now _ _ _ c.args.cursor _ _ _ _ c.sized_length_at-answer.ensures
    _ c.in_ok-counted.ensures)
    (inside_ends g.T.TakeRow.takes c.in_ok-counted.counted.count _ _ _ (place_of c.sized_length_at-answer.new.at) c.in_ok-end.end c.in_ok-end.ensures (omega arith)))

-- ---- a SEQUENCE with an extension marker

pub list_extensible-returns-in_err-bits : goal.list_extensible-returns-in_err-bits
list_extensible-returns-in_err-bits g t c =
    let many = c.optional.ensures.is in
    let fs = c.args.fields.now in
    let xs = c.args.additions.now in
    let h = c.requires.is in
    let is = as_extensible c.args.shape.now h.0 (Some h.1) h.1 fs xs h.2 refl h.3 h.4 in
    rw (at_stop c.from_residual.result c.in_err-bits.field-0.0 c.from_residual.ensures.1)
    (type_arm g.T.TakeRow.takes _ _ c.args.spot.now (Err c.in_err-bits.field-0.0) _ _ _ is
    (bits_stop g.T.TakeRow.takes (fields_of fs) (additions_of xs) c.args.spot.now (c.optional.result + 1) _ _ c.args.cursor _ _ (omega arith) c.preamble-answer.ensures
    c.in_err-bits.field-0.0 c.in_err-bits.ensures))

pub list_extensible-returns-in_err-end : goal.list_extensible-returns-in_err-end
list_extensible-returns-in_err-end g t c =
    let many = c.optional.ensures.is in
    let fs = c.args.fields.now in
    let xs = c.args.additions.now in
    let h = c.requires.is in
    let is = as_extensible c.args.shape.now h.0 (Some h.1) h.1 fs xs h.2 refl h.3 h.4 in
    rw (at_stop c.from_residual-in_err-end.result c.in_err-end.field-0.0 c.from_residual-in_err-end.ensures.1)
    (type_arm g.T.TakeRow.takes _ _ c.args.spot.now (Err c.in_err-end.field-0.0) _ _ _ is
    (root_stop g.T.TakeRow.takes (fields_of fs) (additions_of xs) c.args.spot.now (c.optional.result + 1) _ _ c.args.cursor _ _ (omega arith) c.preamble-answer.ensures
    _ c.in_ok-bits.ensures (bits_in c.later.result) c.later.ensures c.in_err-end.field-0.0 _ c.in_err-end.ensures))

pub list_extensible-returns : goal.list_extensible-returns
list_extensible-returns g t c =
    let many = c.optional.ensures.is in
    let fs = c.args.fields.now in
    let xs = c.args.additions.now in
    let h = c.requires.is in
    let is = as_extensible c.args.shape.now h.0 (Some h.1) h.1 fs xs h.2 refl h.3 h.4 in
    type_arm g.T.TakeRow.takes _ _ c.args.spot.now c.list_extension.result _ _ _ is
    (root_then g.T.TakeRow.takes (fields_of fs) (additions_of xs) c.args.spot.now (c.optional.result + 1) _ _ c.args.cursor _ _ (omega arith) c.preamble-answer.ensures
    _ c.in_ok-bits.ensures (bits_in c.later.result) c.later.ensures c.in_ok-end.end _ _ c.first.result
    c.list_extension.result c.in_ok-end.ensures c.first.ensures c.list_extension.ensures)

pub list_extensible-list_fields-requires : goal.list_extensible-list_fields-requires
list_extensible-list_fields-requires g t c κs within =
    let h = c.requires.is in
    (fields_fall c.args.shape.now h.0 h.1 c.args.fields.now _ _ t h.2 h.3 (omega arith) c.decreases, within)

pub list_extensible-list_extension-requires : goal.list_extensible-list_extension-requires
list_extensible-list_extension-requires g t c κs within =
    let h = c.requires.is in
    (additions_fall c.args.shape.now h.0 h.1 c.args.additions.now _ _ t h.2 h.4 (omega arith) c.decreases, within)

-- ---- a CHOICE

pub list_choice-returns-in_err-tag : goal.list_choice-returns-in_err-tag
list_choice-returns-in_err-tag g t c =
    let h = c.requires.is in
    let xs = c.args.alternatives.now in
    let o = as_choice c.args.shape.now h.0 c.args.additions.now xs h.1 h.2 in
    rw (at_stop c.from_residual.result c.in_err-tag.field-0.0 c.from_residual.ensures.1)
    (type_arm g.T.TakeRow.takes _ _ c.args.spot.now (Err c.in_err-tag.field-0.0) _ _ _ o.is
    (tag_stop g.T.TakeRow.takes o.extensible (root_of xs o.after) c.args.spot.now _ _ c.args.cursor _ _ c.tag_at-answer.ensures c.in_err-tag.field-0.0 c.in_err-tag.ensures))

pub list_choice-returns-in_err-inner : goal.list_choice-returns-in_err-inner
list_choice-returns-in_err-inner g t c =
    rw (at_stop c.from_residual-in_err-inner.result c.in_err-inner.field-0.0 c.from_residual-in_err-inner.ensures.1)
    (no_inner g.T.TakeRow.takes c.args.spot.now to_chosen _ _ _ _ _ c.in_err-inner.ensures)

pub list_choice-returns-in-Some : goal.list_choice-returns-in-Some
list_choice-returns-in-Some g t c =
    let h = c.requires.is in
    let xs = c.args.alternatives.now in
    let a = c.in-Some.alternative.now in
    let o = as_choice c.args.shape.now h.0 c.args.additions.now xs h.1 h.2 in
    type_arm g.T.TakeRow.takes _ _ c.args.spot.now c.list_shape.result _ _ _ o.is
    (tag_then g.T.TakeRow.takes o.extensible (root_of xs o.after) c.args.spot.now _ _ c.args.cursor _ _ c.tag_at-answer.ensures
    _ c.in_ok-inner.inner (λ total path. walk_value (type_of a.shape) total path) c.list_shape.result _ c.in_ok-tag.ensures
    c.in_ok-inner.ensures (choice_root o.extensible xs o.after a c.args.spot.now.total _ c.in_ok-tag.tag c.in-Some.ensures.is)
    c.list_shape.ensures)

pub list_choice-returns-in-None : goal.list_choice-returns-in-None
list_choice-returns-in-None g t c =
    let h = c.requires.is in
    let xs = c.args.alternatives.now in
    type_arm g.T.TakeRow.takes _ _ c.args.spot.now (Err Refused) _ _ _ (as_closed c.args.shape.now h.0 c.args.additions.now xs h.1 c.in-None.is h.2)
    (tag_then g.T.TakeRow.takes false (root_of xs no_alternatives) c.args.spot.now _ _ c.args.cursor _ _ c.tag_at-answer.ensures
    _ c.in_ok-inner.inner (λ total path. stuck) (Err Refused) _ c.in_ok-tag.ensures c.in_ok-inner.ensures
    (choice_none xs c.args.spot.now.total _ c.in_ok-tag.tag (sym c.in_default.ensures.first)) (sticks g.T.TakeRow.takes _ _))

pub list_choice-returns : goal.list_choice-returns
list_choice-returns g t c =
    let h = c.requires.is in
    let xs = c.args.alternatives.now in
    let ys = c.deref.result.now in
    let is = as_open c.args.shape.now h.0 c.args.additions.now c.in-Some-additions.additions xs ys h.1 c.in-Some-additions.is h.2
    c.deref.ensures.value in
    type_arm g.T.TakeRow.takes _ _ c.args.spot.now c.list_later.result _ _ _ is
    (tag_then g.T.TakeRow.takes true (root_of xs (later_of ys)) c.args.spot.now _ _ c.args.cursor _ _ c.tag_at-answer.ensures
    _ c.in_ok-inner.inner (λ total path. walk_later (later_of ys) total path c.in_ok-tag.tag) c.list_later.result _ c.in_ok-tag.ensures
    c.in_ok-inner.ensures (choice_later xs ys c.args.spot.now.total _ c.in_ok-tag.tag (sym c.in_default.ensures.first)) c.list_later.ensures)

pub list_choice-list_shape-requires : goal.list_choice-list_shape-requires
list_choice-list_shape-requires g t c κs within =
    let h = c.requires.is in
    let first = c.in-Some.ensures.first in
    (alternative_falls c.args.shape.now h.0 c.args.additions.now c.args.alternatives.now first.0 c.in-Some.alternative.now _ _ t h.1 h.2 first.1 first.2 (omega arith) c.decreases, within)

pub list_choice-list_later-requires : goal.list_choice-list_later-requires
list_choice-list_later-requires g t c κs within =
    let h = c.requires.is in
    (later_fall c.args.shape.now h.0 c.args.additions.now c.in-Some-additions.additions c.deref.result.now _ _ t h.1 c.in-Some-additions.is c.deref.ensures.value (omega arith) c.decreases, within)

-- ---- alternatives

pub list_later-list_open-requires : goal.list_later-list_open-requires
list_later-list_open-requires g t c κs within =
    let smaller = first_falls c.args.tag c.args.alternatives.now c.in-Some.alternative.now c.in-Some.ensures.is in
    (omega (arith, smaller, c.decreases), within)

pub list_later-returns-in-Some : goal.list_later-returns-in-Some
list_later-returns-in-Some g t c =
    let at_it = later_found c.args.alternatives.now c.in-Some.alternative.now c.args.spot.now.total (path_in c.args.spot.now) c.args.tag
    c.in-Some.ensures.is in
    same_walks g.T.TakeRow.takes c.list_open.result _ _ _ _ _ at_it c.list_open.ensures

pub list_later-returns-in-None : goal.list_later-returns-in-None
list_later-returns-in-None g t c =
    let at_it = later_none c.args.alternatives.now c.args.spot.now.total (path_in c.args.spot.now) c.args.tag c.in-None.ensures.is in
    same_walks g.T.TakeRow.takes c.list_unknown.result _ _ _ _ _ at_it c.list_unknown.ensures

-- ---- by what the shape is

pub list_shape-list_extensible-requires : goal.list_shape-list_extensible-requires
list_shape-list_extensible-requires g t c κs within =
    let s = c.in-Sequence in
    let d = c.decreases in
    (omega arith, (within, (s.root, c.in-Some.additions, s.is ∙ ap (λ (m : Option (Vec Addition Global)). Sequence s.root m) c.in-Some.is, c.deref-in-Some.ensures.value, c.deref-in-Some-2.ensures.value)))

pub list_shape-list_leaf-requires : goal.list_shape-list_leaf-requires
list_shape-list_leaf-requires g t c = is_leaf c.args.shape.now c.in_default.not-Sequence c.in_default.not-SequenceOf c.in_default.not-Choice

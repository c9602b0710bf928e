use Rattle.std.proofs.Common.{◌≡◌, ◌∙◌, ◌++◌, ◌∷◌, [], vec_len, Option, Some, None, Vec, Global, map, length, ◌-◌, ◌+◌, Ok, Err, arith, refl, rules, sym, ap, add-one}
use Rattle.std.proofs.lemmas.Grind.{common_steps}
use Rattle.oer_units.specs.Reading.{open_type}
use Rattle.oer_units.proofs.ReadOpen.{open_filled, open_stop, open_unfilled, open_value_stop}
use Rattle.oer_units.proofs.ReadSteps.{Reads-memory}
use Rattle.oer_model.specs.Reading.{read_value}
use Rattle.oer_values.specs.ShapeView.{additions_of, fields_of, later_of, type_of}
use Rattle.oer_values.specs.ValueView.{places_of, unknown_of, value_of}
use Rattle.oer_values.proofs.Lookups.{first_falls, root_falls}
use Rattle.oer_values.proofs.Shapes.{type_of-Choice, type_of-Sequence}
use Rattle.oer_values.proofs.Values.{value_of-Chosen, value_of-List, value_of-Seq}
use Rattle.oer_writer.proofs.Sizes.{additions_fall, fields_fall, later_fall}
use Rattle.oer_values.specs.declared.shape.Addition.{Addition}
use Rattle.oer_values.specs.declared.shape.Shape.{Sequence}
use Rattle.oer_values.specs.declared.value.Value.TheVariants as Value
use Rattle.oer_decoder.specs.MarksView.{bits_in}
use Rattle.oer_decoder.specs.Starts.{added_of, start_of}
use Rattle.oer_decoder.proofs.Extensions.{extensible_stop, extensible_then, extension_known, extension_none, extension_stop, extension_then, rest_then}
use Rattle.oer_decoder.proofs.Loops.{addition_count_is, found_last, stored_last, adds_end, adds_next, adds_none, adds_stop, elements_end, elements_next, elements_none, elements_stop, fields_end, fields_next, fields_none, fields_stop, items_stop, items_then, leads_memory, listed_is, place_none, place_then, root_stop, root_then, sequence_stop, sequence_then}
use Rattle.oer_decoder.proofs.Picks.{choice_found, choice_later, choice_none, choice_with-is, has_marker, more_of, choice_stop, chosen_memory, chosen_stop, chosen_then, later_foreign, later_found}
use Rattle.oer_decoder.proofs.Shapes.{type_of-Boolean}
use Rattle.oer_decoder.proofs.Exits.{at_fault, at_stop, here}
use Rattle.oer_decoder.proofs.value.+read.Goals as goal

-- ---- an open type

pub read_open-returns-in_err-size : goal.read_open-returns-in_err-size
read_open-returns-in_err-size g t c =
    rw (at_fault c.from_residual.result c.in_err-size.field-0.0 c.from_residual.ensures.1) (here _ _ _ _ (open_stop (read_value (type_of c.args.shape.now)) _ _ _ c.in_err-size.ensures.reads))

pub read_open-returns-in_err-read_shape : goal.read_open-returns-in_err-read_shape
read_open-returns-in_err-read_shape g t c =
    rw (at_stop c.from_residual-in_err-read_shape.result c.in_err-read_shape.field-0.0 c.from_residual-in_err-read_shape.ensures.1)
    (open_value_stop (read_value (type_of c.args.shape.now)) _ _ _ _ c.in_ok-size.size _ c.in_ok-size.ensures.room c.in_ok-size.ensures.reads c.enter-outer.ensures.entered c.in_err-read_shape.ensures.reads)

pub read_open-returns-in_err-leave : goal.read_open-returns-in_err-leave
read_open-returns-in_err-leave g t c =
    let e = c.in_err-leave.ensures in
    rw (at_fault c.from_residual-in_err-leave.result c.in_err-leave.field-0.0 c.from_residual-in_err-leave.ensures.1)
    (here _ _ _ _ (open_unfilled (read_value (type_of c.args.shape.now)) _ _ _ _ _ c.in_ok-size.size (value_of c.read_shape.new.value) _ c.in_ok-size.ensures.room c.in_ok-size.ensures.reads c.enter-outer.ensures.entered c.in_ok-read_shape.ensures.reads (omega (arith, e.unfilled)) e.fault.0 e.fault.1 e.err))

pub read_open-returns : goal.read_open-returns
read_open-returns g t c =
    let e = c.in_ok-leave.ensures in
    open_filled (read_value (type_of c.args.shape.now)) _ _ _ _ _ c.in_ok-size.size (value_of c.read_shape.new.value) _ _ c.in_ok-size.ensures.room c.in_ok-size.ensures.reads c.enter-outer.ensures.entered c.in_ok-read_shape.ensures.reads (omega (arith, e.filled, c.read_shape.new.w.bound.ordered)) e.ok c.enter-outer.ensures.end c.enter-outer.ensures.inside

-- ---- elements

pub read_elements-returns-in-Boolean : goal.read_elements-returns-in-Boolean
read_elements-returns-in-Boolean g t c = rw (c.in-Boolean.is, type_of-Boolean) c.read_booleans.ensures

pub read_elements-loop-i-init : goal.read_elements-loop-i-init
read_elements-loop-i-init g t c = elements_none c.args.count (read_value (type_of c.args.item.now)) _ _ c.new-values.ensures.items

pub read_elements-returns-in_err-read_shape : goal.read_elements-returns-in_err-read_shape
read_elements-returns-in_err-read_shape g t c =
    rw (at_stop c.from_residual.result c.in_err-read_shape.field-0.0 c.from_residual.ensures.1)
    (elements_stop (c.args.count - c.loop-i.i) (c.args.count - (c.loop-i.i + 1)) (read_value (type_of c.args.item.now)) c.loop-i.values.items _ _ _ _ _ (omega arith) c.loop-i.invariant c.in_err-read_shape.ensures.reads)

pub read_elements-read_shape-requires : goal.read_elements-read_shape-requires
read_elements-read_shape-requires g t c κs within =
    let pushed : c.push.new.self.items ≡ c.loop-i.values.items ++ Value.Null ∷ [] = grind (arith, common_steps) in
    let len : vec_len c.push.new.self ≡ vec_len c.loop-i.values + 1 = grind (arith, common_steps) in
    let last = found_last c.loop-i.values.items c.push.new.self.items Value.Null _ (omega (arith, len, c.loop-i.values.ok.0)) pushed in
    (omega (arith, c.decreases), (within, c.in-Some.ensures.value ∙ last))

pub read_elements-loop-i-preserved : goal.read_elements-loop-i-preserved
read_elements-loop-i-preserved g t c =
    let pushed : c.push.new.self.items ≡ c.loop-i.values.items ++ Value.Null ∷ [] = grind (arith, common_steps) in
    let len : vec_len c.push.new.self ≡ vec_len c.loop-i.values + 1 = grind (arith, common_steps) in
    elements_next (c.args.count - c.loop-i.i) (c.args.count - (c.loop-i.i + 1)) (read_value (type_of c.args.item.now)) c.loop-i.values.items _ c.read_shape.new.value _ _ _ _ (omega arith) (stored_last c.loop-i.values.items c.push.new.self.items Value.Null _ (omega (arith, len, c.loop-i.values.ok.0)) pushed) c.loop-i.invariant c.in_ok-read_shape.ensures.reads

pub read_elements-returns-then-is_err : goal.read_elements-returns-then-is_err
read_elements-returns-then-is_err g t c = leads_memory _ _ _ _ _ _ refl refl c.loop-i.invariant

pub read_elements-returns : goal.read_elements-returns
read_elements-returns g t c = elements_end (c.args.count - c.loop-i.i) (read_value (type_of c.args.item.now)) c.loop-i.values.items _ _ _ (omega arith) c.loop-i.invariant

-- ---- components

pub read_fields-returns-in_default : goal.read_fields-returns-in_default
read_fields-returns-in_default g t c = Reads-memory _ _ _ refl refl

pub read_fields-loop-field-init : goal.read_fields-loop-field-init
read_fields-loop-field-init g t c = record {
  leads = fields_none c.args.fields.now c.args.bits.now _ _ c.in-Ok.ensures.items;
  room = omega (arith, c.in-Ok.ensures.len, c.in-Ok.ensures.exact);
}

pub read_fields-push_reserved-requires : goal.read_fields-push_reserved-requires
read_fields-push_reserved-requires g t c = omega (arith, c.loop-field-test.true, c.loop-field.invariant.room)

pub read_fields-loop-field-preserved-then-not-is_present : goal.read_fields-loop-field-preserved-then-not-is_present
read_fields-loop-field-preserved-then-not-is_present g t c = record {
  leads = fields_next c.args.fields.now c.loop-field.field-index c.field-item.result c.loop-field.left.now c.presence-is_present.result.1.now c.presence-is_present.result.0 c.loop-field.places.items _ None _ _ _ _ c.loop-field-test.true c.field-item.is c.presence-is_present.ensures.there c.presence-is_present.ensures.left c.push_reserved.ensures.items c.loop-field.invariant.leads (place_none c.presence-is_present.result.0 (read_value (type_of c.field-item.result.shape)) _ (search rules));
  room = omega (arith, c.loop-field-test.true, c.loop-field.invariant.room, c.push_reserved.ensures.len, c.push_reserved.ensures.capacity);
}

pub read_fields-returns-in_err-read_shape : goal.read_fields-returns-in_err-read_shape
read_fields-returns-in_err-read_shape g t c =
    rw (at_stop c.from_residual.result c.in_err-read_shape.field-0.0 c.from_residual.ensures.1)
    (fields_stop c.args.fields.now c.loop-field.field-index c.field-item.result c.loop-field.left.now c.presence-is_present.result.0 c.loop-field.places.items _ _ _ _ _ c.loop-field-test.true c.field-item.is c.presence-is_present.ensures.there c.loop-field.invariant.leads (place_then c.presence-is_present.result.0 (read_value (type_of c.field-item.result.shape)) _ _ (Err _) (search rules) c.in_err-read_shape.ensures.reads))

pub read_fields-loop-field-preserved : goal.read_fields-loop-field-preserved
read_fields-loop-field-preserved g t c = record {
  leads = fields_next c.args.fields.now c.loop-field.field-index c.field-item.result c.loop-field.left.now c.presence-is_present.result.1.now c.presence-is_present.result.0 c.loop-field.places.items _ (Some c.read_shape.new.value) _ _ _ _ c.loop-field-test.true c.field-item.is c.presence-is_present.ensures.there c.presence-is_present.ensures.left (stored_last c.loop-field.places.items c.push_reserved.new.self.items None _ (omega (arith, c.push_reserved.ensures.len, c.loop-field.places.ok.0)) c.push_reserved.ensures.items) c.loop-field.invariant.leads (place_then c.presence-is_present.result.0 (read_value (type_of c.field-item.result.shape)) _ _ (Ok (value_of c.read_shape.new.value)) (search rules) c.in_ok-read_shape.ensures.reads);
  room = omega (arith, c.loop-field-test.true, c.loop-field.invariant.room, c.push_reserved.ensures.len, c.push_reserved.ensures.capacity);
}

pub read_fields-returns : goal.read_fields-returns
read_fields-returns g t c = fields_end c.args.fields.now c.loop-field.field-index c.loop-field.left.now c.loop-field.places.items _ _ _ c.loop-field-test.false c.loop-field.invariant.leads

-- ---- additions

pub read_additions-returns-in_default : goal.read_additions-returns-in_default
read_additions-returns-in_default g t c = Reads-memory _ _ _ refl refl

pub read_additions-loop-addition-init : goal.read_additions-loop-addition-init
read_additions-loop-addition-init g t c = record {
  leads = adds_none c.args.additions.now c.args.bits.now _ _ c.in-Ok.ensures.items;
  room = omega (arith, c.in-Ok.ensures.len, c.in-Ok.ensures.exact);
}

pub read_additions-push_reserved-requires : goal.read_additions-push_reserved-requires
read_additions-push_reserved-requires g t c = omega (arith, c.loop-addition-test.true, c.loop-addition.invariant.room)

pub read_additions-loop-addition-preserved-then-not-is_present : goal.read_additions-loop-addition-preserved-then-not-is_present
read_additions-loop-addition-preserved-then-not-is_present g t c = record {
  leads = adds_next c.args.additions.now c.loop-addition.addition-index c.addition-item.result c.loop-addition.left.now c.after-rest.result.now c.first-is_present.result c.loop-addition.places.items _ None _ _ _ _ c.loop-addition-test.true c.addition-item.is c.first-is_present.ensures c.after-rest.ensures c.push_reserved.ensures.items c.loop-addition.invariant.leads (place_none c.first-is_present.result (open_type (read_value (type_of c.addition-item.result.shape))) _ (search rules));
  room = omega (arith, c.loop-addition-test.true, c.loop-addition.invariant.room, c.push_reserved.ensures.len, c.push_reserved.ensures.capacity);
}

pub read_additions-returns-in_err-read_open : goal.read_additions-returns-in_err-read_open
read_additions-returns-in_err-read_open g t c =
    rw (at_stop c.from_residual.result c.in_err-read_open.field-0.0 c.from_residual.ensures.1)
    (adds_stop c.args.additions.now c.loop-addition.addition-index c.addition-item.result c.loop-addition.left.now c.first-is_present.result c.loop-addition.places.items _ _ _ _ _ c.loop-addition-test.true c.addition-item.is c.first-is_present.ensures c.loop-addition.invariant.leads (place_then c.first-is_present.result (open_type (read_value (type_of c.addition-item.result.shape))) _ _ (Err _) (search rules) c.in_err-read_open.ensures))

pub read_additions-loop-addition-preserved : goal.read_additions-loop-addition-preserved
read_additions-loop-addition-preserved g t c = record {
  leads = adds_next c.args.additions.now c.loop-addition.addition-index c.addition-item.result c.loop-addition.left.now c.after-rest.result.now c.first-is_present.result c.loop-addition.places.items _ (Some c.read_open.new.value) _ _ _ _ c.loop-addition-test.true c.addition-item.is c.first-is_present.ensures c.after-rest.ensures (stored_last c.loop-addition.places.items c.push_reserved.new.self.items None _ (omega (arith, c.push_reserved.ensures.len, c.loop-addition.places.ok.0)) c.push_reserved.ensures.items) c.loop-addition.invariant.leads (place_then c.first-is_present.result (open_type (read_value (type_of c.addition-item.result.shape))) _ _ (Ok (value_of c.read_open.new.value)) (search rules) c.in_ok-read_open.ensures);
  room = omega (arith, c.loop-addition-test.true, c.loop-addition.invariant.room, c.push_reserved.ensures.len, c.push_reserved.ensures.capacity);
}

pub read_additions-returns : goal.read_additions-returns
read_additions-returns g t c = adds_end c.args.additions.now c.loop-addition.addition-index c.loop-addition.left.now c.loop-addition.places.items _ _ _ c.loop-addition-test.false c.loop-addition.invariant.leads

-- ---- lists

pub read_items-returns-in_err-count : goal.read_items-returns-in_err-count
read_items-returns-in_err-count g t c =
    rw (at_stop c.from_residual.result c.in_err-count.field-0.0 c.from_residual.ensures.1)
    (items_stop c.args.size (read_value (type_of c.args.item.now)) _ _ _ c.in_err-count.ensures)

pub read_items-returns-in_err-values : goal.read_items-returns-in_err-values
read_items-returns-in_err-values g t c =
    rw (at_stop c.from_residual-in_err-values.result c.in_err-values.field-0.0 c.from_residual-in_err-values.ensures.1)
    (items_then c.args.size (read_value (type_of c.args.item.now)) _ _ _ c.in_ok-count.count (Err _) c.in_ok-count.ensures c.in_err-values.ensures)

pub read_items-returns : goal.read_items-returns
read_items-returns g t c =
    rw (c.set.ensures, value_of-List c.in_ok-values.values, sym (listed_is c.in_ok-values.values.items))
    (items_then c.args.size (read_value (type_of c.args.item.now)) _ _ _ c.in_ok-count.count (Ok (map value_of c.in_ok-values.values.items)) c.in_ok-count.ensures c.in_ok-values.ensures)

-- ---- sequences

pub read_sequence-returns-in_err-bits : goal.read_sequence-returns-in_err-bits
read_sequence-returns-in_err-bits g t c =
    rw (at_stop c.from_residual.result c.in_err-bits.field-0.0 c.from_residual.ensures.1)
    (sequence_stop (fields_of c.args.root.now) _ _ _ (rw c.optional.ensures.is at c.in_err-bits.ensures))

pub read_sequence-returns-in_err-root : goal.read_sequence-returns-in_err-root
read_sequence-returns-in_err-root g t c =
    rw (at_stop c.from_residual-in_err-root.result c.in_err-root.field-0.0 c.from_residual-in_err-root.ensures.1)
    (sequence_then (fields_of c.args.root.now) _ _ _ (bits_in c.in_ok-bits.bits) (Err _) (rw c.optional.ensures.is at c.in_ok-bits.ensures) (rw c.as_slice.ensures at c.in_err-root.ensures))

pub read_sequence-returns : goal.read_sequence-returns
read_sequence-returns g t c =
    rw (c.set.ensures, value_of-Seq c.in_ok-root.root c.new.result c.new-2.result, c.new.ensures.items, c.new-2.ensures.items)
    (sequence_then (fields_of c.args.root.now) _ _ _ (bits_in c.in_ok-bits.bits) (Ok (places_of c.in_ok-root.root.items)) (rw c.optional.ensures.is at c.in_ok-bits.ensures) (rw c.as_slice.ensures at c.in_ok-root.ensures))

pub read_root-returns-in_err-bits : goal.read_root-returns-in_err-bits
read_root-returns-in_err-bits g t c =
    rw (at_stop c.from_residual.result c.in_err-bits.field-0.0 c.from_residual.ensures.1)
    (root_stop (fields_of c.args.root.now) _ _ _ (rw (c.optional.ensures.is, add-one) at c.in_err-bits.ensures))

pub read_root-returns-in_err-places : goal.read_root-returns-in_err-places
read_root-returns-in_err-places g t c =
    rw (at_stop c.from_residual-in_err-places.result c.in_err-places.field-0.0 c.from_residual-in_err-places.ensures.1)
    (root_then (fields_of c.args.root.now) _ _ _ (bits_in c.in_ok-bits.bits) (Err _) (rw (c.optional.ensures.is, add-one) at c.in_ok-bits.ensures) (rw (c.after.ensures, c.as_slice-marks.ensures) at c.in_err-places.ensures))

pub read_root-returns : goal.read_root-returns
read_root-returns g t c =
    rw (c.first-is_extended.ensures, c.as_slice-marks.ensures)
    (root_then (fields_of c.args.root.now) _ _ _ (bits_in c.in_ok-bits.bits) (Ok (places_of c.in_ok-places.places.items)) (rw (c.optional.ensures.is, add-one) at c.in_ok-bits.ensures) (rw (c.after.ensures, c.as_slice-marks.ensures) at c.in_ok-places.ensures))

-- ---- additions

pub read_extension-returns-then-not-is_extended : goal.read_extension-returns-then-not-is_extended
read_extension-returns-then-not-is_extended g t c =
    extension_none c.args.is_extended (additions_of c.args.additions.now) _ _ _ (search rules) c.in-Ok.ensures (ap (λ us. map unknown_of us) c.new.ensures.items)

pub read_extension-returns-in_err-bits : goal.read_extension-returns-in_err-bits
read_extension-returns-in_err-bits g t c =
    rw (at_stop c.from_residual.result c.in_err-bits.field-0.0 c.from_residual.ensures.1)
    (extension_stop c.args.is_extended (additions_of c.args.additions.now) _ _ _ (search rules) c.in_err-bits.ensures.reads)

pub read_extension-returns-in_err-known : goal.read_extension-returns-in_err-known
read_extension-returns-in_err-known g t c =
    rw (at_stop c.from_residual-in_err-known.result c.in_err-known.field-0.0 c.from_residual-in_err-known.ensures.1)
    (extension_known c.args.is_extended (additions_of c.args.additions.now) _ _ _ c.in_ok-bits.bits.items _ (search rules) c.in_ok-bits.ensures.reads (rw c.deref.ensures.value at c.in_err-known.ensures))

pub read_extension-returns-in_err-unknown : goal.read_extension-returns-in_err-unknown
read_extension-returns-in_err-unknown g t c =
    rw (at_stop c.from_residual-in_err-unknown.result c.in_err-unknown.field-0.0 c.from_residual-in_err-unknown.ensures.1)
    (extension_then c.args.is_extended (additions_of c.args.additions.now) (length c.args.additions.now) _ _ _ _ c.in_ok-bits.bits.items (places_of c.in_ok-known.known.items) (Err _) (search rules) (addition_count_is c.args.additions.now) c.in_ok-bits.ensures.reads
    (rw c.deref.ensures.value at c.in_ok-known.ensures) (rw c.deref-2.ensures.value at c.in_err-unknown.ensures))

pub read_extension-returns : goal.read_extension-returns
read_extension-returns g t c =
    extension_then c.args.is_extended (additions_of c.args.additions.now) (length c.args.additions.now) _ _ _ _ c.in_ok-bits.bits.items (places_of c.in_ok-known.known.items) (Ok (map unknown_of c.in_ok-unknown.unknown.items)) (search rules) (addition_count_is c.args.additions.now) c.in_ok-bits.ensures.reads
    (rw c.deref.ensures.value at c.in_ok-known.ensures) (rw c.deref-2.ensures.value at c.in_ok-unknown.ensures)

pub read_rest-returns-in_err-added : goal.read_rest-returns-in_err-added
read_rest-returns-in_err-added g t c =
    rw (at_stop c.from_residual.result c.in_err-added.field-0.0 c.from_residual.ensures.1)
    (rest_then (additions_of c.args.additions.now) (start_of c.args.start) _ _ (Err _) c.in_err-added.ensures)

pub read_rest-returns : goal.read_rest-returns
read_rest-returns g t c =
    rw (c.set.ensures, value_of-Seq c.args.start.places c.in_ok-added.added.known c.in_ok-added.added.unknown)
    (rest_then (additions_of c.args.additions.now) (start_of c.args.start) _ _ (Ok (added_of c.in_ok-added.added)) c.in_ok-added.ensures)

-- ---- what follows a tag that no alternative of the root has

pub read_later_alternative-read_open-requires : goal.read_later_alternative-read_open-requires
read_later_alternative-read_open-requires g t c κs within =
    let smaller = first_falls c.args.tag c.args.alternatives.now c.in-Some.alternative.now c.in-Some.ensures.is in
    (omega (arith, smaller, c.decreases), (within, c.deref_mut.ensures.value ∙ c.in_ok-inner.ensures))

pub read_later_alternative-returns-in_default : goal.read_later_alternative-returns-in_default
read_later_alternative-returns-in_default g t c = later_foreign c.args.alternatives.now c.args.tag _ _ _ c.in_default.ensures.is c.set_foreign.ensures

pub read_later_alternative-returns-in_err-inner : goal.read_later_alternative-returns-in_err-inner
read_later_alternative-returns-in_err-inner g t c =
    let a = c.in-Some.alternative.now in
    rw (at_stop c.from_residual.result c.in_err-inner.field-0.0 c.from_residual.ensures.1)
    (later_found c.args.alternatives.now c.args.tag _ _ a _ c.in-Some.ensures.is (chosen_memory c.args.tag (open_type (read_value (type_of a.shape))) _ _ c.in_err-inner.ensures refl))

pub read_later_alternative-returns-in_err-read_open : goal.read_later_alternative-returns-in_err-read_open
read_later_alternative-returns-in_err-read_open g t c =
    let a = c.in-Some.alternative.now in
    rw (at_stop c.from_residual-in_err-read_open.result c.in_err-read_open.field-0.0 c.from_residual-in_err-read_open.ensures.1)
    (later_found c.args.alternatives.now c.args.tag _ _ a _ c.in-Some.ensures.is (chosen_stop c.args.tag (open_type (read_value (type_of a.shape))) _ _ _ c.in_err-read_open.ensures))

pub read_later_alternative-returns : goal.read_later_alternative-returns
read_later_alternative-returns g t c =
    let a = c.in-Some.alternative.now in
    rw (c.set.ensures, value_of-Chosen)
    (later_found c.args.alternatives.now c.args.tag _ _ a _ c.in-Some.ensures.is (chosen_then c.args.tag (open_type (read_value (type_of a.shape))) _ _ (value_of c.read_open.new.value) c.in_ok-read_open.ensures))

-- ---- a sequence with an extension marker

pub read_shape-read_extensible-requires : goal.read_shape-read_extensible-requires
read_shape-read_extensible-requires g t c κs within =
    let s = c.in-Sequence in
    let d = c.decreases in
    let there = s.is ∙ ap (λ (m : Option (Vec Addition Global)). Sequence s.root m) c.in-Some.is in
    (omega arith, (within, ((s.root, c.in-Some.additions, there, c.deref-in-Some.ensures.value, c.deref-in-Some-2.ensures.value), c.requires)))

pub read_extensible-read_root-requires : goal.read_extensible-read_root-requires
read_extensible-read_root-requires g t c κs within =
    let h = c.requires.is in
    let smaller = fields_fall c.args.shape.now h.0 (Some h.1) _ h.2 refl in
    (rw h.3 (omega (arith, smaller, c.decreases)), within)

pub read_extensible-read_rest-requires : goal.read_extensible-read_rest-requires
read_extensible-read_rest-requires g t c κs within =
    let h = c.requires.is in
    let smaller = additions_fall c.args.shape.now h.0 (Some h.1) h.1 _ h.2 refl refl in
    (rw h.4 (omega (arith, smaller, c.decreases)), (within, c.requires.empty))

pub read_extensible-returns-in_err-start : goal.read_extensible-returns-in_err-start
read_extensible-returns-in_err-start g t c =
    let h = c.requires.is in
    rw (at_stop c.from_residual.result c.in_err-start.field-0.0 c.from_residual.ensures.1, h.2, type_of-Sequence)
    (extensible_stop (fields_of h.0.items) (additions_of h.1.items) _ _ _ (rw h.3 at c.in_err-start.ensures))

pub read_extensible-returns : goal.read_extensible-returns
read_extensible-returns g t c =
    let h = c.requires.is in
    rw (h.2, type_of-Sequence)
    (extensible_then (fields_of h.0.items) (additions_of h.1.items) _ _ _ (start_of c.in_ok-start.start) _ (rw h.3 at c.in_ok-start.ensures) (rw h.4 at c.read_rest.ensures))

-- ---- a choice

pub read_shape-read_choice-requires : goal.read_shape-read_choice-requires
read_shape-read_choice-requires g t c κs within =
    let s = c.in-Choice in
    let d = c.decreases in
    (omega arith, (within, ((s.root, s.is, c.deref-in-Choice.ensures.value), c.requires)))

pub read_choice-read_later_alternative-requires : goal.read_choice-read_later_alternative-requires
read_choice-read_later_alternative-requires g t c κs within =
    let h = c.requires.is in
    let smaller = later_fall c.args.shape.now h.0 c.args.additions.now c.in-Some-additions.additions _ h.1 c.in-Some-additions.is refl in
    (rw c.deref.ensures.value (omega (arith, smaller, c.decreases)), (within, c.requires.empty))

pub read_choice-returns-in_err-tag : goal.read_choice-returns-in_err-tag
read_choice-returns-in_err-tag g t c =
    let h = c.requires.is in
    rw (at_fault c.from_residual.result c.in_err-tag.field-0.0 c.from_residual.ensures.1, h.1, type_of-Choice, choice_with-is)
    (here _ _ _ _ (choice_stop (has_marker c.args.additions.now) h.0.items (later_of (more_of c.args.additions.now)) _ _ _ c.in_err-tag.ensures.reads))

pub read_choice-read_shape-requires : goal.read_choice-read_shape-requires
read_choice-read_shape-requires g t c κs within =
    let h = c.requires.is in
    let smaller = root_falls c.in_ok-tag.tag c.args.shape.now h.0 c.args.additions.now c.in-Some.alternative.now h.1 (rw h.2 at c.in-Some.ensures.is) in
    (omega (arith, smaller, c.decreases), (within, c.deref_mut.ensures.value ∙ c.in_ok-inner.ensures))

pub read_choice-returns-in_err-inner : goal.read_choice-returns-in_err-inner
read_choice-returns-in_err-inner g t c =
    let h = c.requires.is in
    let a = c.in-Some.alternative.now in
    rw (at_stop c.from_residual-in_err-inner.result c.in_err-inner.field-0.0 c.from_residual-in_err-inner.ensures.1, h.1, type_of-Choice, choice_with-is)
    (choice_found (has_marker c.args.additions.now) h.0.items (later_of (more_of c.args.additions.now)) _ _ _ c.in_ok-tag.tag a _ c.in_ok-tag.ensures.reads (rw h.2 at c.in-Some.ensures.is) (chosen_memory c.in_ok-tag.tag (read_value (type_of a.shape)) _ _ c.in_err-inner.ensures refl))

pub read_choice-returns-in_err-read_shape : goal.read_choice-returns-in_err-read_shape
read_choice-returns-in_err-read_shape g t c =
    let h = c.requires.is in
    let a = c.in-Some.alternative.now in
    rw (at_stop c.from_residual-in_err-read_shape.result c.in_err-read_shape.field-0.0 c.from_residual-in_err-read_shape.ensures.1, h.1, type_of-Choice, choice_with-is)
    (choice_found (has_marker c.args.additions.now) h.0.items (later_of (more_of c.args.additions.now)) _ _ _ c.in_ok-tag.tag a _ c.in_ok-tag.ensures.reads (rw h.2 at c.in-Some.ensures.is) (chosen_stop c.in_ok-tag.tag (read_value (type_of a.shape)) _ _ _ c.in_err-read_shape.ensures.reads))

pub read_choice-returns-in-Some : goal.read_choice-returns-in-Some
read_choice-returns-in-Some g t c =
    let h = c.requires.is in
    let a = c.in-Some.alternative.now in
    rw (c.set.ensures, value_of-Chosen, h.1, type_of-Choice, choice_with-is)
    (choice_found (has_marker c.args.additions.now) h.0.items (later_of (more_of c.args.additions.now)) _ _ _ c.in_ok-tag.tag a _ c.in_ok-tag.ensures.reads (rw h.2 at c.in-Some.ensures.is) (chosen_then c.in_ok-tag.tag (read_value (type_of a.shape)) _ _ (value_of c.read_shape.new.value) c.in_ok-read_shape.ensures.reads))

pub read_choice-returns-in-Some-additions : goal.read_choice-returns-in-Some-additions
read_choice-returns-in-Some-additions g t c =
    let h = c.requires.is in
    rw (h.1, c.in-Some-additions.is, type_of-Choice)
    (choice_later h.0.items c.in-Some-additions.additions.items _ _ _ c.in_ok-tag.tag _ c.in_ok-tag.ensures.reads
    (rw h.2 at c.in_default.ensures.is) (rw c.deref.ensures.value at c.read_later_alternative.ensures))

pub read_choice-returns-in-None : goal.read_choice-returns-in-None
read_choice-returns-in-None g t c =
    let h = c.requires.is in
    rw (h.1, c.in-None.is, type_of-Choice)
    (choice_none h.0.items _ _ c.in_ok-tag.tag _ c.in_ok-tag.ensures.reads (rw h.2 at c.in_default.ensures.is) refl refl)

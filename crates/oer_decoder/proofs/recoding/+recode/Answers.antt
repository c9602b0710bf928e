use Rattle.std.proofs.Common.{◌≡◌, ◌∙◌, ◌++◌, ◌∷◌, [], ◌||◌, Option, Some, None, Vec, Global, length, ◌-◌, ◌+◌, ◌^◌, ◌<◌, Ok, Err, map, not, arith, refl, rules, sym, ap, subst, add-one, append-nil, append_assoc, false, true}
use Rattle.std.proofs.lemmas.Bool.{eqb-false, eqb-true, false≢true}
use Rattle.std.proofs.lemmas.List.{length-append, length-map}
use denote.Param.Weighed.{at_most}
use Rattle.oer_units.specs.Reading.{counted_octets, open_type}
use Rattle.oer_values.proofs.shape.Field.TheLaws as field_sizes
use Rattle.oer_values.proofs.shape.Addition.TheLaws as addition_sizes
use Rattle.oer_units.proofs.ReadOpen.{open_filled, open_stop, open_unfilled, open_value_stop}
use Rattle.oer_units.proofs.ReadSteps.{Reads-memory_after, Reads-stop}
use Rattle.oer_units.specs.Reader.{give}
use Rattle.oer_model.specs.Bits.{first_bit}
use Rattle.oer_model.specs.Canonical.{any_present, canonical_octets, extension_octets}
use Rattle.oer_model.specs.AsnType.{default}
use Rattle.oer_model.specs.AsnValue.{chosen, foreign}
use Rattle.oer_model.specs.Constraints.{KeepsLimits}
use Rattle.oer_model.specs.Fits.{all_absent, DefaultsFit}
use Rattle.oer_leaves.specs.Parts.{addition_octets, field_bits, field_octets, is_kept, kept_place, known_bits}
use Rattle.oer_leaves.proofs.Components as components
use Rattle.oer_model.specs.Reading.{read_value}
use Rattle.oer_values.specs.ShapeView.{additions_of, fields_of, later_of, need_of, type_of}
use Rattle.oer_values.specs.ValueView.{unknown_of, value_of}
use Rattle.oer_values.proofs.Lookups.{first_falls, root_falls}
use Rattle.oer_values.proofs.Shapes.{type_of-Choice, type_of-Sequence}
use Rattle.oer_writer.proofs.Sizes.{additions_fall, fields_fall, later_fall}
use Rattle.oer_values.specs.declared.shape.Addition.{Addition}
use Rattle.oer_values.specs.declared.shape.Shape.{Choice, Sequence}
use Rattle.oer_checker.proofs.FieldSteps.{addition_defaults, addition_limits, field_default, field_defaults, field_limits}
use Rattle.oer_checker.proofs.TagSteps.{later_defaults, later_limits, root_defaults, root_limits}
use Rattle.oer_checker.proofs.TypeSteps.{as_extensible, choice_defaults, choice_limits, open_defaults, open_limits}
use Rattle.oer_decoder.specs.MarksView.{bits_in}
use Rattle.oer_decoder.specs.Octets.{gathered}
use Rattle.oer_decoder.specs.Places.{started}
use Rattle.oer_decoder.proofs.Extensions.{extensible_stop, extension_known, extension_none, extension_stop, extension_then}
use Rattle.oer_decoder.proofs.Loops.{addition_count_is, items_stop, place_none, place_then, root_stop, root_then, sequence_stop, sequence_then}
use Rattle.oer_decoder.proofs.Picks.{choice_found, choice_later, choice_none, choice_with-is, has_marker, more_of, choice_stop, later_foreign, later_found, chosen_stop, chosen_then}
use Rattle.oer_decoder.proofs.Exits.{at_fault, at_stop, here}
use Rattle.oer_decoder.proofs.Shapes.{type_of-Boolean}
use Rattle.oer_decoder.proofs.Recoded.{additions_end, additions_memory, additions_more, additions_start, additions_stop, elements_end, elements_more, elements_start, elements_stop, extensible_recoded, extensible_refused, fields_end, fields_memory, fields_more, fields_start, fields_stop, items_recoded, no_items, no_present, none_there, open_recoded, read_grown, read_memory, sequence_recoded, some_there}
use Rattle.oer_decoder.proofs.RecodedParts.{addition_present, dropped, foreign_recoded, kept_no, kept_yes, known_recoded, later_recoded, place_present, read_fits, root_recoded, told_kept}
use Rattle.oer_decoder.proofs.recoding.+recode.Goals as goal
use Rattle.oer_decoder.proofs.recoding.+recode.Goals.{recode_extension-else-not-is_known-via-else-not-is_known, recode_extension-else-not-is_known-via-then-not-is_known+else-is_empty}

-- ---- an open type

pub recode_open-returns-in_err-size : goal.recode_open-returns-in_err-size
recode_open-returns-in_err-size g t c =
    rw (at_fault c.from_residual.result c.in_err-size.field-0.0 c.from_residual.ensures.1) (here _ _ _ _ (open_stop (read_value (type_of c.args.shape.now)) _ _ _ c.in_err-size.ensures.reads))

pub recode_open-returns-in_err-recode_shape : goal.recode_open-returns-in_err-recode_shape
recode_open-returns-in_err-recode_shape g t c =
    rw (at_stop c.from_residual-in_err-recode_shape.result c.in_err-recode_shape.field-0.0 c.from_residual-in_err-recode_shape.ensures.1)
    (open_value_stop (read_value (type_of c.args.shape.now)) _ _ _ _ c.in_ok-size.size _ c.in_ok-size.ensures.room c.in_ok-size.ensures.reads c.enter-outer.ensures.entered
    c.in_err-recode_shape.ensures)

pub recode_open-returns-in_err-leave : goal.recode_open-returns-in_err-leave
recode_open-returns-in_err-leave g t c =
    let e = c.in_err-leave.ensures in
    rw (at_fault c.from_residual-in_err-leave.result c.in_err-leave.field-0.0 c.from_residual-in_err-leave.ensures.1)
    (here _ _ _ _ (open_unfilled (read_value (type_of c.args.shape.now)) _ _ _ _ _ c.in_ok-size.size c.in_ok-recode_shape.ensures.0 _ c.in_ok-size.ensures.room c.in_ok-size.ensures.reads
    c.enter-outer.ensures.entered c.in_ok-recode_shape.ensures.1 (omega (arith, e.unfilled)) e.fault.0 e.fault.1 e.err))

pub recode_open-count_from-requires : goal.recode_open-count_from-requires
recode_open-count_from-requires g t c =
    let e = c.in_ok-recode_shape.ensures.2 in
    omega (arith, c.len-at.ensures, ap length e, length-append (gathered c.args.out.now) (canonical_octets (type_of c.args.shape.now) c.in_ok-recode_shape.ensures.0))

pub recode_open-returns : goal.recode_open-returns
recode_open-returns g t c =
    let e = c.in_ok-leave.ensures in
    let one = c.in_ok-recode_shape.ensures in
    open_recoded (type_of c.args.shape.now) _ _ one.0 c.len-at.result (gathered c.args.out.now) _ _ c.count_from.result
    (open_filled (read_value (type_of c.args.shape.now)) _ _ _ _ _ c.in_ok-size.size one.0 _ _ c.in_ok-size.ensures.room c.in_ok-size.ensures.reads c.enter-outer.ensures.entered one.1
    (omega (arith, e.filled, c.recode_shape.new.w.bound.ordered)) e.ok c.enter-outer.ensures.end c.enter-outer.ensures.inside)
    c.len-at.ensures one.2 c.count_from.ensures

-- ---- elements

pub recode_elements-returns-in-Boolean : goal.recode_elements-returns-in-Boolean
recode_elements-returns-in-Boolean g t c = rw (c.in-Boolean.is, type_of-Boolean) c.recode_booleans.ensures

pub recode_elements-loop-i-init : goal.recode_elements-loop-i-init
recode_elements-loop-i-init g t c = elements_start (type_of c.args.item.now) c.args.count _ _

pub recode_elements-returns-in_err-recode_shape : goal.recode_elements-returns-in_err-recode_shape
recode_elements-returns-in_err-recode_shape g t c =
    rw (at_stop c.from_residual.result c.in_err-recode_shape.field-0.0 c.from_residual.ensures.1)
    (elements_stop (type_of c.args.item.now) c.args.count c.loop-i.i _ _ _ _ _ _ (omega arith) c.loop-i.invariant c.in_err-recode_shape.ensures)

pub recode_elements-loop-i-preserved : goal.recode_elements-loop-i-preserved
recode_elements-loop-i-preserved g t c =
    let one = c.in_ok-recode_shape.ensures in
    elements_more (type_of c.args.item.now) c.args.count c.loop-i.i _ _ _ _ _ _ one.0 (omega arith) c.loop-i.invariant one.1 one.2

pub recode_elements-returns : goal.recode_elements-returns
recode_elements-returns g t c = elements_end (type_of c.args.item.now) c.args.count c.loop-i.i _ _ _ _ (omega arith) c.loop-i.invariant

-- ---- lists

pub recode_items-returns-in_err-count : goal.recode_items-returns-in_err-count
recode_items-returns-in_err-count g t c =
    rw (at_stop c.from_residual.result c.in_err-count.field-0.0 c.from_residual.ensures.1) (items_stop c.args.size (read_value (type_of c.args.item.now)) _ _ _ c.in_err-count.ensures)

pub recode_items-returns-in_err-append_quantity : goal.recode_items-returns-in_err-append_quantity
recode_items-returns-in_err-append_quantity g t c =
    rw (at_stop c.from_residual-in_err-append_quantity.result c.in_err-append_quantity.field-0.0 c.from_residual-in_err-append_quantity.ensures.1)
    (Reads-memory_after _ _ _ _ c.in_ok-count.count _ c.in_ok-count.ensures c.in_err-append_quantity.ensures refl)

pub recode_items-returns : goal.recode_items-returns
recode_items-returns g t c =
    items_recoded c.args.size (type_of c.args.item.now) _ _ _ c.in_ok-count.count _ _ _ c.recode_elements.result c.in_ok-count.ensures c.in_ok-append_quantity.ensures c.recode_elements.ensures

-- ---- components

pub recode_present-returns-then-equals : goal.recode_present-returns-then-equals
recode_present-returns-then-equals g t c =
    let T = type_of c.args.field.now.shape in
    let one = c.in_ok-recode_shape-2.ensures in
    let kept = told_kept T c.requires.limits (value_of c.in-Default.default) one.0 c.len-at.result (gathered c.args.out.now) (gathered c.recode_shape-2.new.out) c.from.result.now c.equals.result
    (rw c.in-Default.is at c.requires.fits) (read_fits T c.requires.limits _ _ one.0 one.1) c.len-at.ensures one.2 c.from.ensures (search rules) c.equals.ensures in (
      one.0,
      one.1,
      kept_no (need_of c.args.field.now.need) T one.0 (gathered c.args.out.now) (gathered c.truncate.new.self) (rw c.in-Default.is (kept ∙ ap (λ b. not b) c.if-equals.true))
          (dropped T one.0 c.len-at.result (gathered c.args.out.now) (gathered c.recode_shape-2.new.out) (gathered c.truncate.new.self) c.len-at.ensures one.2 c.truncate.ensures),
    )

pub recode_present-returns : goal.recode_present-returns
recode_present-returns g t c =
    let T = type_of c.args.field.now.shape in
    let one = c.in_ok-recode_shape-2.ensures in
    let kept = told_kept T c.requires.limits (value_of c.in-Default.default) one.0 c.len-at.result (gathered c.args.out.now) (gathered c.recode_shape-2.new.out) c.from.result.now c.equals.result
    (rw c.in-Default.is at c.requires.fits) (read_fits T c.requires.limits _ _ one.0 one.1) c.len-at.ensures one.2 c.from.ensures (search rules) c.equals.ensures in
    (one.0, one.1, kept_yes (need_of c.args.field.now.need) T one.0 (gathered c.args.out.now) (gathered c.recode_shape-2.new.out) (rw c.in-Default.is (kept ∙ ap (λ b. not b) c.if-equals.false)) one.2)

pub recode_place-returns-then-is_present : goal.recode_place-returns-then-is_present
recode_place-returns-then-is_present g t c =
    place_present (need_of c.args.field.now.need) (type_of c.args.field.now.shape) c.args.is_present _ _
    (gathered c.args.out.now) _ c.recode_present.result c.if-is_present.true c.recode_present.ensures

pub recode_place-returns-else-is_present : goal.recode_place-returns-else-is_present
recode_place-returns-else-is_present g t c =
    (None, place_none c.args.is_present (read_value (type_of c.args.field.now.shape)) _ (search rules), (refl, sym (append-nil (gathered c.args.out.now))))

pub recode_fields-loop-field-init : goal.recode_fields-loop-field-init
recode_fields-loop-field-init g t c = fields_start c.args.fields.now c.args.bits.now _ _ _

pub recode_fields-recode_place-requires : goal.recode_fields-recode_place-requires
recode_fields-recode_place-requires g t c κs within =
    let x = c.field-item.result in (
      omega (arith, at_most (λ y. field_sizes.the_size y) c.args.fields.now c.loop-field.field-index x c.loop-field-test.true, ap (λ y. field_sizes.the_size y) c.field-item.is, c.decreases),
      (
        within,
        (
          field_limits c.args.fields.now c.loop-field.field-index x c.loop-field-test.true c.field-item.is c.requires.limits,
          (
            field_defaults c.args.fields.now c.loop-field.field-index x c.loop-field-test.true c.field-item.is c.requires.defaults,
            field_default c.args.fields.now c.loop-field.field-index x c.loop-field-test.true c.field-item.is c.requires.defaults,
          ),
        ),
      ),
    )

pub recode_fields-returns-in_err-is_kept : goal.recode_fields-returns-in_err-is_kept
recode_fields-returns-in_err-is_kept g t c =
    rw (at_stop c.from_residual.result c.in_err-is_kept.field-0.0 c.from_residual.ensures.1)
    (fields_stop c.args.fields.now c.loop-field.field-index c.field-item.result c.args.bits.now c.loop-field.left.now c.presence-is_present.result.0 _ _ _ _ _ _ _ _ c.loop-field-test.true
    c.field-item.is c.presence-is_present.ensures.there c.loop-field.invariant c.in_err-is_kept.ensures)

pub recode_fields-returns-in_err-mark_place : goal.recode_fields-returns-in_err-mark_place
recode_fields-returns-in_err-mark_place g t c =
    let one = c.in_ok-is_kept.ensures in
    rw (at_stop c.from_residual-in_err-mark_place.result c.in_err-mark_place.field-0.0 c.from_residual-in_err-mark_place.ensures.1)
    (fields_memory c.args.fields.now c.loop-field.field-index c.field-item.result c.args.bits.now c.loop-field.left.now c.presence-is_present.result.0 one.0 _ _ _ _ _ _ _ _ c.loop-field.invariant
    one.1
    (c.in_err-mark_place.ensures (kept_place (need_of c.field-item.result.need) (type_of c.field-item.result.shape) one.0) one.2.0) refl)

pub recode_fields-loop-field-preserved : goal.recode_fields-loop-field-preserved
recode_fields-loop-field-preserved g t c =
    let one = c.in_ok-is_kept.ensures in
    fields_more c.args.fields.now c.loop-field.field-index c.field-item.result c.args.bits.now c.loop-field.left.now c.presence-is_present.result.1.now c.presence-is_present.result.0 one.0 _ _ _
    _ _ _ _ _ _
    c.loop-field-test.true c.field-item.is c.presence-is_present.ensures.there c.presence-is_present.ensures.left c.loop-field.invariant one.1
    (c.in_ok-mark_place.ensures (kept_place (need_of c.field-item.result.need) (type_of c.field-item.result.shape) one.0) one.2.0) one.2.1

pub recode_fields-returns : goal.recode_fields-returns
recode_fields-returns g t c = fields_end c.args.fields.now c.loop-field.field-index c.args.bits.now c.loop-field.left.now _ _ _ _ _ _ c.loop-field-test.false c.loop-field.invariant

-- ---- additions

pub recode_addition-returns-then-is_present : goal.recode_addition-returns-then-is_present
recode_addition-returns-then-is_present g t c =
    addition_present (type_of c.args.addition.now.shape) c.args.is_present _ _ (gathered c.args.out.now) _ c.recode_open.result c.if-is_present.true c.recode_open.ensures

pub recode_addition-returns-else-is_present : goal.recode_addition-returns-else-is_present
recode_addition-returns-else-is_present g t c =
    (None, place_none c.args.is_present (open_type (read_value (type_of c.args.addition.now.shape))) _ (search rules), (search rules, sym (append-nil (gathered c.args.out.now))))

pub recode_additions-loop-addition-init : goal.recode_additions-loop-addition-init
recode_additions-loop-addition-init g t c = additions_start c.args.additions.now c.args.bits.now _ _ _

pub recode_additions-recode_addition-requires : goal.recode_additions-recode_addition-requires
recode_additions-recode_addition-requires g t c κs within =
    let x = c.addition-item.result in (
      omega (
        arith,
        at_most (λ y. addition_sizes.the_size y) c.args.additions.now c.loop-addition.addition-index x c.loop-addition-test.true,
        ap
            (λ y. addition_sizes.the_size y) c.addition-item.is,
        c.decreases,
      ),
      (
        within,
        (
          addition_limits c.args.additions.now c.loop-addition.addition-index x c.loop-addition-test.true c.addition-item.is c.requires.limits,
          addition_defaults c.args.additions.now c.loop-addition.addition-index x c.loop-addition-test.true c.addition-item.is c.requires.defaults,
        ),
      ),
    )

pub recode_additions-returns-in_err-recode_addition : goal.recode_additions-returns-in_err-recode_addition
recode_additions-returns-in_err-recode_addition g t c =
    rw (at_stop c.from_residual.result c.in_err-recode_addition.field-0.0 c.from_residual.ensures.1)
    (additions_stop c.args.additions.now c.loop-addition.addition-index c.addition-item.result c.args.bits.now c.loop-addition.left.now c.first-is_present.result c.loop-addition.is_any _ _ _ _ _
    _ _ _ c.loop-addition-test.true c.addition-item.is c.first-is_present.ensures c.loop-addition.invariant c.in_err-recode_addition.ensures)

pub recode_additions-returns-in_err-push : goal.recode_additions-returns-in_err-push
recode_additions-returns-in_err-push g t c =
    let one = c.in_ok-recode_addition.ensures in
    rw (at_stop c.from_residual-in_err-push.result c.in_err-push.field-0.0 c.from_residual-in_err-push.ensures.1)
    (additions_memory c.args.additions.now c.loop-addition.addition-index c.addition-item.result c.args.bits.now c.loop-addition.left.now c.first-is_present.result c.loop-addition.is_any one.0 _
    _ _ _ _ _ _ _ c.loop-addition.invariant one.1 c.in_err-push.ensures refl)

pub recode_additions-loop-addition-preserved : goal.recode_additions-loop-addition-preserved
recode_additions-loop-addition-preserved g t c =
    let one = c.in_ok-recode_addition.ensures in
    additions_more c.args.additions.now c.loop-addition.addition-index c.addition-item.result c.args.bits.now c.loop-addition.left.now c.after-rest.result.now c.first-is_present.result
    c.loop-addition.is_any _ one.0 _ _ _ _ _ _ _ _ _
    c.loop-addition-test.true c.addition-item.is c.first-is_present.ensures c.after-rest.ensures refl c.loop-addition.invariant one.1 one.2.0 c.in_ok-push.ensures one.2.1

pub recode_additions-returns : goal.recode_additions-returns
recode_additions-returns g t c = additions_end c.args.additions.now c.loop-addition.addition-index c.args.bits.now c.loop-addition.left.now c.loop-addition.is_any _ _ _ _ _ _
    c.loop-addition-test.false c.loop-addition.invariant

-- ---- sequences

pub recode_sequence-returns-in_err-bits : goal.recode_sequence-returns-in_err-bits
recode_sequence-returns-in_err-bits g t c =
    rw (at_stop c.from_residual.result c.in_err-bits.field-0.0 c.from_residual.ensures.1)
    (sequence_stop (fields_of c.args.root.now) _ _ _ (rw c.optional.ensures.is at c.in_err-bits.ensures))

pub recode_sequence-returns-in_err-recode_fields : goal.recode_sequence-returns-in_err-recode_fields
recode_sequence-returns-in_err-recode_fields g t c =
    rw (at_stop c.from_residual-in_err-recode_fields.result c.in_err-recode_fields.field-0.0 c.from_residual-in_err-recode_fields.ensures.1)
    (sequence_then (fields_of c.args.root.now) _ _ _ (bits_in c.in_ok-bits.bits) (Err _) (rw c.optional.ensures.is at c.in_ok-bits.ensures) (rw c.as_slice.ensures at c.in_err-recode_fields.ensures))

pub recode_sequence-bits_before-requires : goal.recode_sequence-bits_before-requires
recode_sequence-bits_before-requires g t c =
    let one = c.in_ok-recode_fields.ensures in
    omega (arith, c.len-at.ensures, ap length one.2.1, length-append (gathered c.args.out.now) (field_octets (fields_of c.args.root.now) one.0))

pub recode_sequence-returns : goal.recode_sequence-returns
recode_sequence-returns g t c =
    let one = rw c.as_slice.ensures at c.in_ok-recode_fields.ensures in
    sequence_recoded (fields_of c.args.root.now) _ _ _ (bits_in c.in_ok-bits.bits) (bits_in c.recode_fields.new.marks) one.0 c.len-at.result (gathered c.args.out.now)
    (gathered c.recode_fields.new.out) _ c.bits_before.result
    (rw c.optional.ensures.is at c.in_ok-bits.ensures) one.1 (one.2.0
    ∙ ap (λ l. l ++ field_bits (fields_of c.args.root.now) one.0) c.none-marks.ensures) c.len-at.ensures one.2.1 (rw c.as_slice-2.ensures at c.bits_before.ensures)

pub recode_root-returns-in_err-bits : goal.recode_root-returns-in_err-bits
recode_root-returns-in_err-bits g t c =
    rw (at_stop c.from_residual.result c.in_err-bits.field-0.0 c.from_residual.ensures.1)
    (root_stop (fields_of c.args.root.now) _ _ _ (rw (c.optional.ensures.is, add-one) at c.in_err-bits.ensures))

pub recode_root-returns-in_err-push : goal.recode_root-returns-in_err-push
recode_root-returns-in_err-push g t c =
    rw (at_stop c.from_residual-in_err-push.result c.in_err-push.field-0.0 c.from_residual-in_err-push.ensures.1)
    (Reads-memory_after _ _ _ _ (bits_in c.in_ok-bits.bits) _ c.in_ok-bits.ensures c.in_err-push.ensures refl)

pub recode_root-returns-in_err-recode_fields : goal.recode_root-returns-in_err-recode_fields
recode_root-returns-in_err-recode_fields g t c =
    rw (at_stop c.from_residual-in_err-recode_fields.result c.in_err-recode_fields.field-0.0 c.from_residual-in_err-recode_fields.ensures.1)
    (root_then (fields_of c.args.root.now) _ _ _ (bits_in c.in_ok-bits.bits) (Err _) (rw (c.optional.ensures.is, add-one) at c.in_ok-bits.ensures)
    (rw (c.after.ensures, c.as_slice-read.ensures) at c.in_err-recode_fields.ensures))

pub recode_root-returns : goal.recode_root-returns
recode_root-returns g t c =
    let one = rw (c.after.ensures, c.as_slice-read.ensures) at c.in_ok-recode_fields.ensures in
    let bits = field_bits (fields_of c.args.root.now) one.0 in (
      started (bits_in c.in_ok-bits.bits) one.0,
      root_then (fields_of c.args.root.now) _ _ _ (bits_in c.in_ok-bits.bits) (Ok one.0) (rw (c.optional.ensures.is, add-one) at c.in_ok-bits.ensures) one.1,
      (
        c.first.ensures ∙ ap first_bit c.as_slice-read.ensures,
        one.2.0 ∙ ap (λ l. l ++ bits) c.in_ok-push.ensures ∙ append_assoc (bits_in c.args.marks.now) (false ∷ []) bits,
        one.2.1,
      ),
    )

-- ---- what follows a root

pub recode_extension-returns-then-not-is_extended : goal.recode_extension-returns-then-not-is_extended
recode_extension-returns-then-not-is_extended g t c =
    let more = additions_of c.args.additions.now in
    ((all_absent more, []), extension_none c.args.is_extended more _ _ _ (search rules) refl refl, (sym (no_present more), sym (append-nil (gathered c.args.out.now))))

pub recode_extension-returns-in_err-bits : goal.recode_extension-returns-in_err-bits
recode_extension-returns-in_err-bits g t c =
    rw (at_stop c.from_residual.result c.in_err-bits.field-0.0 c.from_residual.ensures.1)
    (extension_stop c.args.is_extended (additions_of c.args.additions.now) _ _ _ (search rules) c.in_err-bits.ensures.reads)

pub recode_extension-returns-in_err-is_known : goal.recode_extension-returns-in_err-is_known
recode_extension-returns-in_err-is_known g t c =
    rw (at_stop c.from_residual-in_err-is_known.result c.in_err-is_known.field-0.0 c.from_residual-in_err-is_known.ensures.1)
    (extension_known c.args.is_extended (additions_of c.args.additions.now) _ _ _ c.in_ok-bits.bits.items _ (search rules) c.in_ok-bits.ensures.reads
    (rw c.deref.ensures.value at c.in_err-is_known.ensures))

pub recode_extension-returns-in_err-unknown : goal.recode_extension-returns-in_err-unknown
recode_extension-returns-in_err-unknown g t c =
    let one = rw c.deref.ensures.value at c.in_ok-is_known.ensures in
    rw (at_stop c.from_residual-in_err-unknown.result c.in_err-unknown.field-0.0 c.from_residual-in_err-unknown.ensures.1)
    (extension_then c.args.is_extended (additions_of c.args.additions.now) (length c.args.additions.now) _ _ _ _ c.in_ok-bits.bits.items one.0 (Err _) (search rules)
    (addition_count_is c.args.additions.now) c.in_ok-bits.ensures.reads
    one.1 (rw c.deref-2.ensures.value at c.in_err-unknown.ensures))

-- ---- a sequence with an extension marker

pub recode_shape-recode_extensible-requires : goal.recode_shape-recode_extensible-requires
recode_shape-recode_extensible-requires g t c κs within =
    let s = c.in-Sequence in
    let d = c.decreases in (
      omega arith,
      (
        within,
        (
          (
            s.root,
            c.in-Some.additions,
            s.is
                ∙ ap (λ (m : Option (Vec Addition Global)). Sequence s.root m) c.in-Some.is,
            c.deref-in-Some.ensures.value,
            c.deref-in-Some-2.ensures.value,
          ),
          (c.requires.limits, c.requires.defaults),
        ),
      ),
    )

pub recode_extensible-recode_root-requires : goal.recode_extensible-recode_root-requires
recode_extensible-recode_root-requires g t c κs within =
    let h = c.requires.is in
    let smaller = fields_fall c.args.shape.now h.0 (Some h.1) _ h.2 refl in
    let is = as_extensible c.args.shape.now h.0 (Some h.1) h.1 c.args.root.now c.args.additions.now h.2 refl h.3 h.4 in
    (rw h.3 (omega (arith, smaller, c.decreases)), (within, ((subst KeepsLimits is c.requires.limits).0, (subst DefaultsFit is c.requires.defaults).0)))

pub recode_extensible-recode_extension-requires : goal.recode_extensible-recode_extension-requires
recode_extensible-recode_extension-requires g t c κs within =
    let h = c.requires.is in
    let smaller = additions_fall c.args.shape.now h.0 (Some h.1) h.1 _ h.2 refl refl in
    let is = as_extensible c.args.shape.now h.0 (Some h.1) h.1 c.args.root.now c.args.additions.now h.2 refl h.3 h.4 in
    (rw h.4 (omega (arith, smaller, c.decreases)), (within, ((subst KeepsLimits is c.requires.limits).1, (subst DefaultsFit is c.requires.defaults).1)))

-- ---- a choice

pub recode_shape-recode_choice-requires : goal.recode_shape-recode_choice-requires
recode_shape-recode_choice-requires g t c κs within =
    let s = c.in-Choice in
    let d = c.decreases in
    (omega arith, (within, ((s.root, s.is, c.deref-in-Choice.ensures.value), (c.requires.limits, c.requires.defaults))))

pub recode_choice-recode_shape-requires : goal.recode_choice-recode_shape-requires
recode_choice-recode_shape-requires g t c κs within =
    let h = c.requires.is in
    let xs = c.args.root.now in
    let more = c.args.additions.now in
    let first = c.in-Some.ensures.first in
    let a = c.in-Some.alternative.now in
    let smaller = root_falls c.in_ok-tag.tag c.args.shape.now h.0 more a h.1 (rw h.2 at c.in-Some.ensures.is) in (
      omega (arith, smaller, c.decreases),
      (
        within,
        (
          root_limits xs first.0 a first.1 first.2
              (choice_limits c.args.shape.now h.0 more xs h.1 h.2 c.requires.limits),
          root_defaults xs first.0 a first.1 first.2
              (choice_defaults c.args.shape.now h.0 more xs h.1 h.2 c.requires.defaults),
        ),
      ),
    )

pub recode_choice-recode_later-requires : goal.recode_choice-recode_later-requires
recode_choice-recode_later-requires g t c κs within =
    let h = c.requires.is in
    let more = c.args.additions.now in
    let later = c.in-Some-additions.additions in
    let ys = c.deref.result.now in
    let smaller = later_fall c.args.shape.now h.0 more later _ h.1 c.in-Some-additions.is refl in (
      rw c.deref.ensures.value (omega (arith, smaller, c.decreases)),
      (
        within,
        (
          open_limits c.args.shape.now h.0 more later ys h.1 c.in-Some-additions.is c.deref.ensures.value c.requires.limits,
          open_defaults c.args.shape.now h.0 more later ys h.1
              c.in-Some-additions.is c.deref.ensures.value c.requires.defaults,
        ),
      ),
    )

pub recode_later-recode_open-requires : goal.recode_later-recode_open-requires
recode_later-recode_open-requires g t c κs within =
    let smaller = first_falls c.args.tag c.args.alternatives.now c.in-Some.alternative.now c.in-Some.ensures.is in
    let first = c.in-Some.ensures.first in
    let a = c.in-Some.alternative.now in (
      omega (arith, smaller, c.decreases),
      (
        within,
        (
          later_limits c.args.alternatives.now first.0 a first.1 first.2 c.requires.limits,
          later_defaults c.args.alternatives.now first.0 a first.1
              first.2 c.requires.defaults,
        ),
      ),
    )

pub recode_choice-returns-in_err-tag : goal.recode_choice-returns-in_err-tag
recode_choice-returns-in_err-tag g t c =
    let h = c.requires.is in
    rw (at_fault c.from_residual.result c.in_err-tag.field-0.0 c.from_residual.ensures.1, h.1, type_of-Choice, choice_with-is)
    (here _ _ _ _ (choice_stop (has_marker c.args.additions.now) h.0.items (later_of (more_of c.args.additions.now)) _ _ _ c.in_err-tag.ensures.reads))

pub recode_choice-returns-in_err-append_tag : goal.recode_choice-returns-in_err-append_tag
recode_choice-returns-in_err-append_tag g t c =
    rw (at_stop c.from_residual-in_err-append_tag.result c.in_err-append_tag.field-0.0 c.from_residual-in_err-append_tag.ensures.1)
    (Reads-memory_after _ _ _ _ c.in_ok-tag.tag _ c.in_ok-tag.ensures.reads c.in_err-append_tag.ensures refl)

pub recode_choice-returns-in-Some : goal.recode_choice-returns-in-Some
recode_choice-returns-in-Some g t c =
    let h = c.requires.is in
    root_recoded c.args.shape.now h.0 c.args.additions.now c.args.root.now c.in_ok-tag.tag c.in-Some.alternative.now _ _ _ (gathered c.args.out.now)
    (gathered c.append_tag.new.out) _ c.recode_shape.result h.1 h.2 c.in_ok-tag.ensures.reads c.in-Some.ensures.is c.in_ok-append_tag.ensures c.recode_shape.ensures

pub recode_choice-returns-in-Some-additions : goal.recode_choice-returns-in-Some-additions
recode_choice-returns-in-Some-additions g t c =
    let h = c.requires.is in
    let later = c.in-Some-additions.additions in
    later_recoded c.args.shape.now h.0 later c.args.root.now c.deref.result.now c.in_ok-tag.tag _ _ _ (gathered c.args.out.now) (gathered c.append_tag.new.out) _ c.recode_later.result (h.1
    ∙ ap (λ m. Choice h.0 m) c.in-Some-additions.is) h.2 c.deref.ensures.value
    c.in_ok-tag.ensures.reads c.in_default.ensures.is c.in_ok-append_tag.ensures c.recode_later.ensures

pub recode_choice-returns-in-None : goal.recode_choice-returns-in-None
recode_choice-returns-in-None g t c =
    let h = c.requires.is in
    rw (h.1, c.in-None.is, type_of-Choice) (choice_none h.0.items _ _ c.in_ok-tag.tag _ c.in_ok-tag.ensures.reads (rw h.2 at c.in_default.ensures.is) refl refl)

pub recode_later-returns-in_err-octets : goal.recode_later-returns-in_err-octets
recode_later-returns-in_err-octets g t c =
    rw (at_stop c.from_residual.result c.in_err-octets.field-0.0 c.from_residual.ensures.1)
    (later_foreign c.args.alternatives.now c.args.tag _ _ _ c.in_default.ensures.is (Reads-stop counted_octets (λ w. give (foreign c.args.tag w)) _ _ _ c.in_err-octets.ensures))

pub recode_later-returns-in_default : goal.recode_later-returns-in_default
recode_later-returns-in_default g t c =
    foreign_recoded c.args.alternatives.now c.args.tag c.in_ok-octets.octets.items _ _ (gathered c.args.out.now) _ c.append_counted.result c.in_default.ensures.is c.in_ok-octets.ensures
    (rw c.deref.ensures.value at c.append_counted.ensures)

pub recode_later-returns : goal.recode_later-returns
recode_later-returns g t c =
    known_recoded c.args.alternatives.now c.args.tag c.in-Some.alternative.now _ _ (gathered c.args.out.now) _ c.recode_open.result c.in-Some.ensures.is c.recode_open.ensures

-- ---- what follows a root

pub recode_extension-returns-then-is_empty : goal.recode_extension-returns-then-is_empty
recode_extension-returns-then-is_empty g t c =
    let xs = c.args.additions.now in
    let us = map unknown_of c.in_ok-unknown.unknown.items in
    let one = rw c.deref.ensures.value at c.in_ok-is_known.ensures in
    let none = sym c.in_ok-unknown.unknown.ok.0 ∙ eqb-true _ _ (sym c.is_empty.ensures ∙ c.if-is_empty.true) in (
      (one.0, us),
      extension_then c.args.is_extended (additions_of xs) (length xs) _ _ _ _ c.in_ok-bits.bits.items one.0 (Ok us) (search rules) (addition_count_is xs) c.in_ok-bits.ensures.reads one.1
          (rw c.deref-2.ensures.value at c.in_ok-unknown.ensures),
      none_there (additions_of xs) one.0 us c.in_ok-is_known.is_known (gathered c.args.out.now) _ one.2.0 (search rules) (no_items c.in_ok-unknown.unknown.items none) one.2.2,
    )

pub recode_extension-returns-in_err-mark_unknown : goal.recode_extension-returns-in_err-mark_unknown
recode_extension-returns-in_err-mark_unknown g t c =
    let xs = c.args.additions.now in
    let us = map unknown_of c.in_ok-unknown.unknown.items in
    let one = rw c.deref.ensures.value at c.in_ok-is_known.ensures in
    rw (at_stop c.from_residual-in_err-mark_unknown.result c.in_err-mark_unknown.field-0.0 c.from_residual-in_err-mark_unknown.ensures.1)
    (Reads-memory_after _ _ _ _ (one.0, us) _
    (extension_then c.args.is_extended (additions_of xs) (length xs) _ _ _ _ c.in_ok-bits.bits.items one.0 (Ok us) (search rules) (addition_count_is xs) c.in_ok-bits.ensures.reads one.1
    (rw c.deref-2.ensures.value at c.in_ok-unknown.ensures)) c.in_err-mark_unknown.ensures refl)

pub recode_extension-returns-in_err-append_unknown : goal.recode_extension-returns-in_err-append_unknown
recode_extension-returns-in_err-append_unknown g t c =
    let xs = c.args.additions.now in
    let us = map unknown_of c.in_ok-unknown.unknown.items in
    let one = rw c.deref.ensures.value at c.in_ok-is_known.ensures in
    rw (at_stop c.from_residual-in_err-append_unknown.result c.in_err-append_unknown.field-0.0 c.from_residual-in_err-append_unknown.ensures.1)
    (Reads-memory_after _ _ _ _ (one.0, us) _
    (extension_then c.args.is_extended (additions_of xs) (length xs) _ _ _ _ c.in_ok-bits.bits.items one.0 (Ok us) (search rules) (addition_count_is xs) c.in_ok-bits.ensures.reads one.1
    (rw c.deref-2.ensures.value at c.in_ok-unknown.ensures)) c.in_err-append_unknown.ensures refl)

pub recode_extension-returns-in_err-bitmap_before : goal.recode_extension-returns-in_err-bitmap_before
recode_extension-returns-in_err-bitmap_before g t c =
    let xs = c.args.additions.now in
    let us = map unknown_of c.in_ok-unknown.unknown.items in
    let one = rw c.deref.ensures.value at c.in_ok-is_known.ensures in
    rw (at_stop c.from_residual-in_err-bitmap_before.result c.in_err-bitmap_before.field-0.0 c.from_residual-in_err-bitmap_before.ensures.1)
    (Reads-memory_after _ _ _ _ (one.0, us) _
    (extension_then c.args.is_extended (additions_of xs) (length xs) _ _ _ _ c.in_ok-bits.bits.items one.0 (Ok us) (search rules) (addition_count_is xs) c.in_ok-bits.ensures.reads one.1
    (rw c.deref-2.ensures.value at c.in_ok-unknown.ensures)) c.in_err-bitmap_before.ensures refl)

pub recode_extension-returns : goal.recode_extension-returns
recode_extension-returns g t c =
    let xs = c.args.additions.now in
    let items = c.in_ok-unknown.unknown.items in
    let us = map unknown_of items in
    let one = rw c.deref.ensures.value at c.in_ok-is_known.ensures in
    let some : c.in_ok-is_known.is_known ≡ false → us ≡ [] → ⊥ = elim c.else-not-is_known.branch [
      | recode_extension-else-not-is_known-via-then-not-is_known+else-is_empty w ↦ λ e n. eqb-false _ _ (sym w.is_empty.ensures ∙ w.if-is_empty.false) (c.in_ok-unknown.unknown.ok.0
          ∙ sym (length-map items unknown_of) ∙ ap (λ l. length l) n)
      | recode_extension-else-not-is_known-via-else-not-is_known w ↦ λ e n. let is : c.in_ok-is_known.is_known ≡ true = search (rules, w.if-not-is_known.false) in false≢true (sym e ∙ is)
    ] in (
      (one.0, us),
      extension_then c.args.is_extended (additions_of xs) (length xs) _ _ _ _ c.in_ok-bits.bits.items one.0 (Ok us) (search rules) (addition_count_is xs) c.in_ok-bits.ensures.reads one.1
          (rw c.deref-2.ensures.value at c.in_ok-unknown.ensures),
      some_there xs one.0 us c.in_ok-is_known.is_known (bits_in c.recode_additions.new.marks) (bits_in c.mark_unknown.new.marks) c.len-at.result (gathered c.args.out.now)
          (gathered c.recode_additions.new.out) (gathered c.append_unknown.new.out) _ one.2.0 some
          (one.2.1 ∙ ap (λ l. l ++ known_bits (additions_of xs) one.0) c.none-marks.ensures) (rw c.deref-3.ensures.value at c.in_ok-mark_unknown.ensures) c.len-at.ensures one.2.2
          (rw c.deref-4.ensures.value at c.in_ok-append_unknown.ensures) (rw c.as_slice.ensures at c.in_ok-bitmap_before.ensures),
    )

pub recode_extensible-returns-in_err-is_extended : goal.recode_extensible-returns-in_err-is_extended
recode_extensible-returns-in_err-is_extended g t c =
    let h = c.requires.is in
    rw (at_stop c.from_residual.result c.in_err-is_extended.field-0.0 c.from_residual.ensures.1, h.2, type_of-Sequence)
    (extensible_stop (fields_of h.0.items) (additions_of h.1.items) _ _ _ (rw h.3 at c.in_err-is_extended.ensures))

pub recode_extensible-returns-in_err-has_additions : goal.recode_extensible-returns-in_err-has_additions
recode_extensible-returns-in_err-has_additions g t c =
    let h = c.requires.is in
    let one = rw h.3 at c.in_ok-is_extended.ensures in
    rw (at_stop c.from_residual-in_err-has_additions.result c.in_err-has_additions.field-0.0 c.from_residual-in_err-has_additions.ensures.1, h.2, type_of-Sequence)
    (extensible_refused (fields_of h.0.items) (additions_of h.1.items) _ _ _ one.0 c.in_ok-is_extended.is_extended _ one.1 one.2.0 (rw h.4 at c.in_err-has_additions.ensures))

pub recode_extensible-returns : goal.recode_extensible-returns
recode_extensible-returns g t c =
    let h = c.requires.is in
    let fs = fields_of h.0.items in
    let one = rw h.3 at c.in_ok-is_extended.ensures in
    let two = rw h.4 at c.in_ok-has_additions.ensures in
    rw (h.2, type_of-Sequence)
    (extensible_recoded fs (additions_of h.1.items) _ _ _ one.0 two.0 c.in_ok-is_extended.is_extended c.in_ok-has_additions.has_additions (bits_in c.recode_root.new.marks)
    (bits_in c.set_first.new.self) c.len-at.result (gathered c.args.out.now) (gathered c.recode_root.new.out) (gathered c.recode_extension.new.out) _ c.bits_before.result
    one.1 one.2.0 two.1 (one.2.1 ∙ ap (λ l. l ++ false ∷ field_bits fs one.0.root) c.none-marks.ensures) c.set_first.ensures c.len-at.ensures one.2.2 two.2.0 two.2.1
    (rw c.as_slice.ensures at c.bits_before.ensures))

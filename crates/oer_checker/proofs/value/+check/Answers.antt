use Rattle.std.proofs.Common.{◌&&◌, ◌≡◌, ◌∙◌, subst, Global, Option, Vec, Some, ◌-◌, ◌+◌, Bool, true, false, length, arith, rules, refl, sym, ap, not}
use Rattle.oer_units.specs.Reader.{Reader}
use Rattle.oer_model.specs.AsnType.{choice, extensible_sequence, no_alternatives, sequence, sequence_of}
use Rattle.oer_model.specs.Checking.{check_open, check_value}
use Rattle.oer_model.specs.Constraints.{KeepsLimits}
use Rattle.oer_model.specs.Fits.{DefaultsFit}
use Rattle.oer_values.proofs.Lookups.{first_falls}
use Rattle.oer_values.specs.ShapeView.{additions_of, fields_of, later_of, need_of, root_of, type_of}
use Rattle.oer_values.specs.declared.shape.Addition.{Addition}
use Rattle.oer_values.specs.declared.shape.Shape.{Sequence, Shape}
use Rattle.oer_checker.specs.BitView.{bits_in}
use Rattle.oer_checker.specs.Places.{place_of}
use Rattle.oer_checker.specs.Steps.{and_after, check_there, is_default, left_open}
use Rattle.oer_checker.proofs.Exits.{at_stop}
use Rattle.oer_checker.proofs.Joins.{else_and, else_got, then_and, then_got}
use Rattle.oer_checker.proofs.FieldSteps.{additions_end, additions_next, additions_stop, count_is, extensible_stop, fields_end, fields_next, fields_stop, if_absent, items_stop, items_then, known_stop, later_got, later_stop, map_stop, no_extension, root_stop, sequence_stop, sequence_then, there_got, there_stop, times_end, times_next, times_start, times_stop, unknown_got, unknown_stop}
use Rattle.oer_checker.proofs.LengthSteps.{open_stop, open_then}
use Rattle.oer_checker.proofs.ShapeCases.{is_leaf}
use Rattle.oer_checker.proofs.Shapes.{type_of-Boolean}
use Rattle.oer_checker.proofs.TagSteps.{choice_later, choice_none, choice_root, choice_stop, later_found, later_none, first_value, root_defaults, root_limits}
use Rattle.oer_checker.proofs.Sizes.{additions_fall, alternative_falls, fields_fall, later_fall}
use Rattle.oer_checker.proofs.TypeSteps.{as_choice, as_closed, as_extensible, as_items, as_open, as_sequence, by_type, choice_defaults, choice_limits, open_defaults, open_limits}
use Rattle.oer_checker.proofs.value.+check.Goals as goal
use Rattle.oer_checker.proofs.value.+check.Goals.{check_extension-then-is_known, check_extension-else-is_known, check_additions-then-is_canonical, check_additions-else-is_canonical}
use Rattle.oer_checker.proofs.value.+check.Goals.{check_elements-then-is_canonical, check_elements-else-is_canonical, check_fields-then-is_canonical, check_fields-else-is_canonical}

pub check_addition-returns-else-is_present : goal.check_addition-returns-else-is_present
check_addition-returns-else-is_present t c = if_absent c.args.is_present (check_open (check_value (type_of c.args.addition.now.shape))) _ c.if-is_present.false

pub check_place-returns-else-is_present : goal.check_place-returns-else-is_present
check_place-returns-else-is_present t c = if_absent c.args.is_present (check_there (need_of c.args.field.now.need) (type_of c.args.field.now.shape)) _ c.if-is_present.false

pub check_additions-loop-addition-preserved : goal.check_additions-loop-addition-preserved
check_additions-loop-addition-preserved t c =
    let both : c.if-is_canonical.is_canonical ≡ (c.loop-addition.is_canonical && c.in_ok-is_addition.is_addition) = elim c.if-is_canonical.branch [
      | check_additions-then-is_canonical w ↦ then_and w.if-is_canonical.true w.is_canonical-is
      | check_additions-else-is_canonical w ↦ else_and c.in_ok-is_addition.is_addition w.if-is_canonical.false w.is_canonical-is
    ] in
    rw both (additions_next c.args.additions.now c.loop-addition.addition-index c.addition-item.result (bits_in c.loop-addition.left) (bits_in c.later-left.result)
    c.first-is_present.result c.loop-addition.is_canonical c.in_ok-is_addition.is_addition _ _ _ c.loop-addition-test.true c.addition-item.is c.first-is_present.ensures
    c.later-left.ensures c.loop-addition.invariant c.in_ok-is_addition.ensures)

pub check_additions-returns-in_err-is_addition : goal.check_additions-returns-in_err-is_addition
check_additions-returns-in_err-is_addition t c = rw (at_stop c.from_residual.result c.in_err-is_addition.field-0.0 c.from_residual.ensures.1) (additions_stop c.args.additions.now c.loop-addition.addition-index c.addition-item.result (bits_in c.loop-addition.left) (bits_in c.later-left.result) c.first-is_present.result c.loop-addition.is_canonical _ _ _ _ c.loop-addition-test.true c.addition-item.is c.first-is_present.ensures c.later-left.ensures c.loop-addition.invariant c.in_err-is_addition.ensures)

pub check_additions-returns : goal.check_additions-returns
check_additions-returns t c = additions_end c.args.additions.now c.loop-addition.addition-index (bits_in c.loop-addition.left) c.loop-addition.is_canonical _ _ c.loop-addition-test.false c.loop-addition.invariant

pub check_fields-loop-field-preserved : goal.check_fields-loop-field-preserved
check_fields-loop-field-preserved t c =
    let both : c.if-is_canonical.is_canonical ≡ (c.loop-field.is_canonical && c.in_ok-is_field.is_field) = elim c.if-is_canonical.branch [
      | check_fields-then-is_canonical w ↦ then_and w.if-is_canonical.true w.is_canonical-is
      | check_fields-else-is_canonical w ↦ else_and c.in_ok-is_field.is_field w.if-is_canonical.false w.is_canonical-is
    ] in
    rw both (fields_next c.args.fields.now c.loop-field.field-index c.field-item.result (bits_in c.loop-field.left) (bits_in c.presence-is_present.result.1)
    c.presence-is_present.result.0 c.loop-field.is_canonical c.in_ok-is_field.is_field _ _ _ c.loop-field-test.true c.field-item.is c.presence-is_present.ensures.there
    c.presence-is_present.ensures.left c.loop-field.invariant c.in_ok-is_field.ensures)

pub check_fields-returns-in_err-is_field : goal.check_fields-returns-in_err-is_field
check_fields-returns-in_err-is_field t c = rw (at_stop c.from_residual.result c.in_err-is_field.field-0.0 c.from_residual.ensures.1) (fields_stop c.args.fields.now c.loop-field.field-index c.field-item.result (bits_in c.loop-field.left) (bits_in c.presence-is_present.result.1) c.presence-is_present.result.0 c.loop-field.is_canonical _ _ _ _ c.loop-field-test.true c.field-item.is c.presence-is_present.ensures.there c.presence-is_present.ensures.left c.loop-field.invariant c.in_err-is_field.ensures)

pub check_fields-returns : goal.check_fields-returns
check_fields-returns t c = fields_end c.args.fields.now c.loop-field.field-index (bits_in c.loop-field.left) c.loop-field.is_canonical _ _ c.loop-field-test.false c.loop-field.invariant

pub check_later-returns-in_default : goal.check_later-returns-in_default
check_later-returns-in_default t c = c.check_octets.ensures ∙ ap (λ (r : Reader Bool). r (place_of c.args.at.now)) (later_none c.args.alternatives.now c.args.tag c.in_default.ensures.is)

pub check_later-returns : goal.check_later-returns
check_later-returns t c = c.check_open.ensures ∙ ap (λ (r : Reader Bool). r (place_of c.args.at.now)) (later_found c.args.alternatives.now c.in-Some.alternative.now c.args.tag c.in-Some.ensures.is)

pub check_later-check_open-requires : goal.check_later-check_open-requires
check_later-check_open-requires t c =
    let smaller = first_falls c.args.tag c.args.alternatives.now c.in-Some.alternative.now c.in-Some.ensures.is in
    (omega (arith, smaller, c.decreases), (c.later_fits.ensures.limits, c.later_fits.ensures.defaults))

pub check_elements-returns-in-Boolean : goal.check_elements-returns-in-Boolean
check_elements-returns-in-Boolean t c = rw (c.in-Boolean.is, type_of-Boolean) c.check_booleans.ensures

pub check_elements-loop-turn-init : goal.check_elements-loop-turn-init
check_elements-loop-turn-init t c = times_start c.args.count (check_value (type_of c.args.item.now)) _

pub check_elements-returns-in_err-is_element : goal.check_elements-returns-in_err-is_element
check_elements-returns-in_err-is_element t c = rw (at_stop c.from_residual.result c.in_err-is_element.field-0.0 c.from_residual.ensures.1) (times_stop (c.args.count - c.loop-turn.turn) (c.args.count - (c.loop-turn.turn + 1)) (check_value (type_of c.args.item.now)) c.loop-turn.is_canonical _ _ _ _ (omega arith) c.loop-turn.invariant c.in_err-is_element.ensures)

pub check_elements-loop-turn-preserved : goal.check_elements-loop-turn-preserved
check_elements-loop-turn-preserved t c =
    let both : c.if-is_canonical.is_canonical ≡ (c.loop-turn.is_canonical && c.in_ok-is_element.is_element) = elim c.if-is_canonical.branch [
      | check_elements-then-is_canonical w ↦ then_and w.if-is_canonical.true w.is_canonical-is
      | check_elements-else-is_canonical w ↦ else_and c.in_ok-is_element.is_element w.if-is_canonical.false w.is_canonical-is
    ] in
    rw both (times_next (c.args.count - c.loop-turn.turn) (c.args.count - (c.loop-turn.turn + 1)) (check_value (type_of c.args.item.now)) c.loop-turn.is_canonical
    c.in_ok-is_element.is_element _ _ _ (omega arith) c.loop-turn.invariant c.in_ok-is_element.ensures)

pub check_elements-returns : goal.check_elements-returns
check_elements-returns t c = times_end (c.args.count - c.loop-turn.turn) (check_value (type_of c.args.item.now)) c.loop-turn.is_canonical _ _ (omega arith) c.loop-turn.invariant

pub check_extension-returns-then-not-is_extended : goal.check_extension-returns-then-not-is_extended
check_extension-returns-then-not-is_extended t c = no_extension (additions_of c.args.additions.now) c.args.is_extended _ (search rules)

pub check_extension-returns-in_err-map : goal.check_extension-returns-in_err-map
check_extension-returns-in_err-map t c = rw (at_stop c.from_residual.result c.in_err-map.field-0.0 c.from_residual.ensures.1) (map_stop (additions_of c.args.additions.now) (length c.args.additions.now) c.args.is_extended _ _ _ (search rules) (sym (count_is c.args.additions.now)) c.in_err-map.ensures.bits)

pub check_extension-returns-in_err-is_known : goal.check_extension-returns-in_err-is_known
check_extension-returns-in_err-is_known t c = rw (at_stop c.from_residual-in_err-is_known.result c.in_err-is_known.field-0.0 c.from_residual-in_err-is_known.ensures.1) (known_stop (additions_of c.args.additions.now) (length c.args.additions.now) c.args.is_extended _ _ (bits_in c.in_ok-map.map.bits) c.in_ok-map.map.is_canonical _ _ (search rules) (sym (count_is c.args.additions.now)) c.in_ok-map.ensures.bits c.in_err-is_known.ensures)

pub check_extension-returns-in_err-is_unknown : goal.check_extension-returns-in_err-is_unknown
check_extension-returns-in_err-is_unknown t c = rw (at_stop c.from_residual-in_err-is_unknown.result c.in_err-is_unknown.field-0.0 c.from_residual-in_err-is_unknown.ensures.1) (unknown_stop (additions_of c.args.additions.now) (length c.args.additions.now) c.args.is_extended _ _ _ (bits_in c.in_ok-map.map.bits) c.in_ok-map.map.is_canonical c.in_ok-is_known.is_known _ _ (search rules) (sym (count_is c.args.additions.now)) c.in_ok-map.ensures.bits c.in_ok-is_known.ensures c.in_err-is_unknown.ensures)

pub check_extension-returns-then-map : goal.check_extension-returns-then-map
check_extension-returns-then-map t c =
    let both : c.if-is_known.are_canonical ≡ (c.in_ok-is_known.is_known && c.in_ok-is_unknown.is_unknown) = elim c.if-is_known.branch [
      | check_extension-then-is_known w ↦ then_and w.if-is_known.true w.are_canonical-is
      | check_extension-else-is_known w ↦ else_and c.in_ok-is_unknown.is_unknown w.if-is_known.false w.are_canonical-is
    ] in
    rw both (then_got c.if-map.true (unknown_got (additions_of c.args.additions.now) (length c.args.additions.now) c.args.is_extended _ _ _ _
    (bits_in c.in_ok-map.map.bits) c.in_ok-map.map.is_canonical c.in_ok-is_known.is_known c.in_ok-is_unknown.is_unknown (search rules)
    (sym (count_is c.args.additions.now)) c.in_ok-map.ensures.bits c.in_ok-is_known.ensures c.in_ok-is_unknown.ensures))

pub check_extension-returns-else-map : goal.check_extension-returns-else-map
check_extension-returns-else-map t c =
    else_got (c.in_ok-is_known.is_known && c.in_ok-is_unknown.is_unknown) c.if-map.false
    (unknown_got (additions_of c.args.additions.now) (length c.args.additions.now) c.args.is_extended _ _ _ _ (bits_in c.in_ok-map.map.bits) c.in_ok-map.map.is_canonical
    c.in_ok-is_known.is_known c.in_ok-is_unknown.is_unknown (search rules) (sym (count_is c.args.additions.now)) c.in_ok-map.ensures.bits c.in_ok-is_known.ensures c.in_ok-is_unknown.ensures)

pub check_field-returns-in_err-is_canonical : goal.check_field-returns-in_err-is_canonical
check_field-returns-in_err-is_canonical t c = rw (at_stop c.from_residual.result c.in_err-is_canonical.field-0.0 c.from_residual.ensures.1) (there_stop (need_of c.args.field.now.need) (type_of c.args.field.now.shape) _ _ _ c.in_err-is_canonical.ensures)

pub check_field-returns-then-is_canonical : goal.check_field-returns-then-is_canonical
check_field-returns-then-is_canonical t c =
    then_got c.if-is_canonical.true (there_got (need_of c.args.field.now.need) (type_of c.args.field.now.shape) _ _ c.in_ok-is_canonical.is_canonical
    c.is_default-is_its_default.result c.in_ok-is_canonical.ensures
    (c.is_default-is_its_default.ensures ∙ ap (is_default (need_of c.args.field.now.need) (type_of c.args.field.now.shape)) c.octets_between.ensures))

pub check_field-returns-else-is_canonical : goal.check_field-returns-else-is_canonical
check_field-returns-else-is_canonical t c =
    else_got (not c.is_default-is_its_default.result) c.if-is_canonical.false
    (there_got (need_of c.args.field.now.need) (type_of c.args.field.now.shape) _ _ c.in_ok-is_canonical.is_canonical c.is_default-is_its_default.result
    c.in_ok-is_canonical.ensures (c.is_default-is_its_default.ensures ∙ ap (is_default (need_of c.args.field.now.need) (type_of c.args.field.now.shape)) c.octets_between.ensures))

pub check_open-returns-in_err-counted : goal.check_open-returns-in_err-counted
check_open-returns-in_err-counted t c = rw (at_stop c.from_residual.result c.in_err-counted.field-0.0 c.from_residual.ensures.1) (open_stop (check_value (type_of c.args.shape.now)) _ _ _ c.in_err-counted.ensures)

pub check_open-returns : goal.check_open-returns
check_open-returns t c = c.leave.ensures ∙ ap (left_open (place_of c.sized_length_at.new.at) c.in_ok-counted.counted.count c.in_ok-counted.counted.is_least) c.check_shape-answer.ensures ∙ open_then (check_value (type_of c.args.shape.now)) _ _ c.in_ok-counted.counted.count c.in_ok-counted.counted.is_least c.in_ok-counted.ensures

pub check_items-returns-in_err-counted : goal.check_items-returns-in_err-counted
check_items-returns-in_err-counted t c = rw (at_stop c.from_residual.result c.in_err-counted.field-0.0 c.from_residual.ensures.1) (items_stop c.args.size.now (type_of c.args.item.now) _ _ _ c.in_err-counted.ensures)

pub check_items-returns-in_err-is_canonical : goal.check_items-returns-in_err-is_canonical
check_items-returns-in_err-is_canonical t c = rw (at_stop c.from_residual-in_err-is_canonical.result c.in_err-is_canonical.field-0.0 c.from_residual-in_err-is_canonical.ensures.1) (ap (and_after c.in_ok-counted.counted.is_least) c.in_err-is_canonical.ensures ∙ items_then c.args.size.now (type_of c.args.item.now) _ _ c.in_ok-counted.counted.count c.in_ok-counted.counted.is_least c.in_ok-counted.ensures)

pub check_items-returns-then-counted : goal.check_items-returns-then-counted
check_items-returns-then-counted t c =
    then_got c.if-counted.true (ap (and_after c.in_ok-counted.counted.is_least) c.in_ok-is_canonical.ensures ∙ items_then c.args.size.now (type_of c.args.item.now) _ _
    c.in_ok-counted.counted.count c.in_ok-counted.counted.is_least c.in_ok-counted.ensures)

pub check_items-returns-else-counted : goal.check_items-returns-else-counted
check_items-returns-else-counted t c =
    else_got c.in_ok-is_canonical.is_canonical c.if-counted.false
    (ap (and_after c.in_ok-counted.counted.is_least) c.in_ok-is_canonical.ensures ∙ items_then c.args.size.now (type_of c.args.item.now) _ _ c.in_ok-counted.counted.count
    c.in_ok-counted.counted.is_least c.in_ok-counted.ensures)

pub check_sequence-returns-in_err-bits : goal.check_sequence-returns-in_err-bits
check_sequence-returns-in_err-bits t c = rw (at_stop c.from_residual.result c.in_err-bits.field-0.0 c.from_residual.ensures.1) (sequence_stop (fields_of c.args.fields.now) _ _ _ (rw c.optional.ensures.is at c.in_err-bits.ensures))

pub check_sequence-returns : goal.check_sequence-returns
check_sequence-returns t c = sequence_then (fields_of c.args.fields.now) _ _ (bits_in c.in_ok-bits.bits) _ (rw c.optional.ensures.is at c.in_ok-bits.ensures) c.check_fields.ensures

pub check_extensible-returns-in_err-bits : goal.check_extensible-returns-in_err-bits
check_extensible-returns-in_err-bits t c =
    let many = c.optional.ensures.is in
    let fs = c.args.fields.now in
    let xs = c.args.additions.now in
    let h = c.requires.is in
    let is = as_extensible c.args.shape.now h.0 (Some h.1) h.1 fs xs h.2 refl h.3 h.4 in
    rw (at_stop c.from_residual.result c.in_err-bits.field-0.0 c.from_residual.ensures.1) (by_type (type_of c.args.shape.now) (extensible_sequence (fields_of fs) (additions_of xs)) _ _ is (extensible_stop (fields_of fs) (additions_of xs) (c.optional.result + 1) _ _ _ (omega arith) c.in_err-bits.ensures))

pub check_extensible-returns-in_err-is_canonical : goal.check_extensible-returns-in_err-is_canonical
check_extensible-returns-in_err-is_canonical t c =
    let many = c.optional.ensures.is in
    let fs = c.args.fields.now in
    let xs = c.args.additions.now in
    let h = c.requires.is in
    let is = as_extensible c.args.shape.now h.0 (Some h.1) h.1 fs xs h.2 refl h.3 h.4 in
    rw (at_stop c.from_residual-in_err-is_canonical.result c.in_err-is_canonical.field-0.0 c.from_residual-in_err-is_canonical.ensures.1) (by_type (type_of c.args.shape.now) (extensible_sequence (fields_of fs) (additions_of xs)) _ _ is (root_stop (fields_of fs) (additions_of xs) (c.optional.result + 1) _ _ (bits_in c.in_ok-bits.bits) (bits_in c.later.result) _ _ (omega arith) c.in_ok-bits.ensures c.later.ensures c.in_err-is_canonical.ensures))

pub check_extensible-returns-in_err-is_extension : goal.check_extensible-returns-in_err-is_extension
check_extensible-returns-in_err-is_extension t c =
    let many = c.optional.ensures.is in
    let fs = c.args.fields.now in
    let xs = c.args.additions.now in
    let h = c.requires.is in
    let is = as_extensible c.args.shape.now h.0 (Some h.1) h.1 fs xs h.2 refl h.3 h.4 in
    rw (at_stop c.from_residual-in_err-is_extension.result c.in_err-is_extension.field-0.0 c.from_residual-in_err-is_extension.ensures.1) (by_type (type_of c.args.shape.now) (extensible_sequence (fields_of fs) (additions_of xs)) _ _ is (later_stop (fields_of fs) (additions_of xs) (c.optional.result + 1) _ _ _ (bits_in c.in_ok-bits.bits) (bits_in c.later.result) c.first.result c.in_ok-is_canonical.is_canonical _ _ (omega arith) c.in_ok-bits.ensures c.later.ensures c.first.ensures c.in_ok-is_canonical.ensures c.in_err-is_extension.ensures))

pub check_extensible-returns-then-is_canonical : goal.check_extensible-returns-then-is_canonical
check_extensible-returns-then-is_canonical t c =
    let many = c.optional.ensures.is in
    let fs = c.args.fields.now in
    let xs = c.args.additions.now in
    let h = c.requires.is in
    let is = as_extensible c.args.shape.now h.0 (Some h.1) h.1 fs xs h.2 refl h.3 h.4 in
    then_got c.if-is_canonical.true (by_type (type_of c.args.shape.now) (extensible_sequence (fields_of fs) (additions_of xs)) _ _ is
    (later_got (fields_of fs) (additions_of xs) (c.optional.result + 1) _ _ _ _ (bits_in c.in_ok-bits.bits) (bits_in c.later.result) c.first.result
    c.in_ok-is_canonical.is_canonical c.in_ok-is_extension.is_extension (omega arith) c.in_ok-bits.ensures c.later.ensures c.first.ensures c.in_ok-is_canonical.ensures
    c.in_ok-is_extension.ensures))

pub check_extensible-returns-else-is_canonical : goal.check_extensible-returns-else-is_canonical
check_extensible-returns-else-is_canonical t c =
    let many = c.optional.ensures.is in
    let fs = c.args.fields.now in
    let xs = c.args.additions.now in
    let h = c.requires.is in
    let is = as_extensible c.args.shape.now h.0 (Some h.1) h.1 fs xs h.2 refl h.3 h.4 in
    else_got c.in_ok-is_extension.is_extension c.if-is_canonical.false
    (by_type (type_of c.args.shape.now) (extensible_sequence (fields_of fs) (additions_of xs)) _ _ is
    (later_got (fields_of fs) (additions_of xs) (c.optional.result + 1) _ _ _ _ (bits_in c.in_ok-bits.bits) (bits_in c.later.result) c.first.result
    c.in_ok-is_canonical.is_canonical c.in_ok-is_extension.is_extension (omega arith) c.in_ok-bits.ensures c.later.ensures c.first.ensures c.in_ok-is_canonical.ensures
    c.in_ok-is_extension.ensures))

pub check_extensible-check_fields-requires : goal.check_extensible-check_fields-requires
check_extensible-check_fields-requires t c =
    let h = c.requires.is in
    let is = as_extensible c.args.shape.now h.0 (Some h.1) h.1 c.args.fields.now c.args.additions.now h.2 refl h.3 h.4 in
    (fields_fall c.args.shape.now h.0 h.1 c.args.fields.now _ _ t h.2 h.3 (omega arith) c.decreases, ((subst KeepsLimits is c.requires.limits).0, (subst DefaultsFit is c.requires.defaults).0))

pub check_extensible-check_extension-requires : goal.check_extensible-check_extension-requires
check_extensible-check_extension-requires t c =
    let h = c.requires.is in
    let is = as_extensible c.args.shape.now h.0 (Some h.1) h.1 c.args.fields.now c.args.additions.now h.2 refl h.3 h.4 in
    (additions_fall c.args.shape.now h.0 h.1 c.args.additions.now _ _ t h.2 h.4 (omega arith) c.decreases, ((subst KeepsLimits is c.requires.limits).1, (subst DefaultsFit is c.requires.defaults).1))

pub check_choice-returns-in_err-tag : goal.check_choice-returns-in_err-tag
check_choice-returns-in_err-tag t c =
    let h = c.requires.is in
    let xs = c.args.alternatives.now in
    let o = as_choice c.args.shape.now h.0 c.args.additions.now xs h.1 h.2 in
    rw (at_stop c.from_residual.result c.in_err-tag.field-0.0 c.from_residual.ensures.1) (by_type (type_of c.args.shape.now) (choice o.extensible (root_of xs o.after)) _ _ o.is (choice_stop o.extensible (root_of xs o.after) _ _ _ c.in_err-tag.ensures))

pub check_choice-returns-in-Some : goal.check_choice-returns-in-Some
check_choice-returns-in-Some t c =
    let h = c.requires.is in
    let xs = c.args.alternatives.now in
    let o = as_choice c.args.shape.now h.0 c.args.additions.now xs h.1 h.2 in
    let first = c.in-Some.ensures.first in
    let found = first_value xs first.0 c.in-Some.alternative.now c.in_ok-tag.tag first.1 first.2 first.3 first.4 in
    by_type (type_of c.args.shape.now) (choice o.extensible (root_of xs o.after)) _ _ o.is (choice_root o.extensible xs o.after _ _ c.in_ok-tag.tag _ c.in_ok-tag.ensures found.0 (c.check_shape.ensures ∙ ap (λ (r : Reader Bool). r (place_of c.tag_at.new.at)) found.1))

pub check_choice-returns-in-None : goal.check_choice-returns-in-None
check_choice-returns-in-None t c =
    let h = c.requires.is in
    let xs = c.args.alternatives.now in
    by_type (type_of c.args.shape.now) (choice false (root_of xs no_alternatives)) _ _ (as_closed c.args.shape.now h.0 c.args.additions.now xs h.1 c.in-None.is h.2) (choice_none xs _ _ c.in_ok-tag.tag c.in_ok-tag.ensures (sym c.in_default.ensures.first))

pub check_choice-returns-in-Some-additions : goal.check_choice-returns-in-Some-additions
check_choice-returns-in-Some-additions t c =
    let h = c.requires.is in
    let xs = c.args.alternatives.now in
    let ys = c.deref.result.now in
    let is = as_open c.args.shape.now h.0 c.args.additions.now c.in-Some-additions.additions xs ys h.1 c.in-Some-additions.is h.2 c.deref.ensures.value in
    by_type (type_of c.args.shape.now) (choice true (root_of xs (later_of ys))) _ _ is (choice_later xs ys _ _ c.in_ok-tag.tag _ c.in_ok-tag.ensures (sym c.in_default.ensures.first) c.check_later.ensures)

pub check_choice-check_shape-requires : goal.check_choice-check_shape-requires
check_choice-check_shape-requires t c =
    let h = c.requires.is in
    let xs = c.args.alternatives.now in
    let more = c.args.additions.now in
    let first = c.in-Some.ensures.first in
    let a = c.in-Some.alternative.now in
    (alternative_falls c.args.shape.now h.0 more xs first.0 a _ _ t h.1 h.2 first.1 first.2 (omega arith) c.decreases, (root_limits xs first.0 a first.1 first.2 (choice_limits c.args.shape.now h.0 more xs h.1 h.2 c.requires.limits), root_defaults xs first.0 a first.1 first.2 (choice_defaults c.args.shape.now h.0 more xs h.1 h.2 c.requires.defaults)))

pub check_choice-check_later-requires : goal.check_choice-check_later-requires
check_choice-check_later-requires t c =
    let h = c.requires.is in
    let more = c.args.additions.now in
    let later = c.in-Some-additions.additions in
    let ys = c.deref.result.now in
    (later_fall c.args.shape.now h.0 more later ys _ _ t h.1 c.in-Some-additions.is c.deref.ensures.value (omega arith) c.decreases, (open_limits c.args.shape.now h.0 more later ys h.1 c.in-Some-additions.is c.deref.ensures.value c.requires.limits, open_defaults c.args.shape.now h.0 more later ys h.1 c.in-Some-additions.is c.deref.ensures.value c.requires.defaults))

pub check_shape-returns-in-SequenceOf : goal.check_shape-returns-in-SequenceOf
check_shape-returns-in-SequenceOf t c =
    let s = c.in-SequenceOf in
    let is = as_items c.args.shape.now s.size s.item s.is ∙ ap (λ (i : Shape). sequence_of s.size (type_of i)) (sym c.deref.ensures) in
    by_type (type_of c.args.shape.now) (sequence_of s.size (type_of c.deref.result.now)) _ _ is c.check_items.ensures

pub check_shape-returns-in-None : goal.check_shape-returns-in-None
check_shape-returns-in-None t c =
    let s = c.in-Sequence in
    let fs = c.deref-in-None.result.now in
    by_type (type_of c.args.shape.now) (sequence (fields_of fs)) _ _ (as_sequence c.args.shape.now s.root s.additions fs s.is c.in-None.is c.deref-in-None.ensures.value) c.check_sequence.ensures

pub check_fields-field_fits-requires : goal.check_fields-field_fits-requires
check_fields-field_fits-requires t c = record { one = (c.loop-field.field-index, c.loop-field-test.true, c.field-item.is); limits = c.requires.limits; defaults = c.requires.defaults }

pub check_additions-addition_fits-requires : goal.check_additions-addition_fits-requires
check_additions-addition_fits-requires t c = record { one = (c.loop-addition.addition-index, c.loop-addition-test.true, c.addition-item.is); limits = c.requires.limits; defaults = c.requires.defaults }

pub check_later-later_fits-requires : goal.check_later-later_fits-requires
check_later-later_fits-requires t c =
    let first = c.in-Some.ensures.first in
    record { one = (first.0, first.1, first.2); limits = c.requires.limits; defaults = c.requires.defaults }

pub check_shape-check_extensible-requires : goal.check_shape-check_extensible-requires
check_shape-check_extensible-requires t c =
    let s = c.in-Sequence in
    let d = c.decreases in
    (omega arith, ((s.root, c.in-Some.additions, s.is ∙ ap (λ (m : Option (Vec Addition Global)). Sequence s.root m) c.in-Some.is, c.deref-in-Some.ensures.value, c.deref-in-Some-2.ensures.value), (c.requires.limits, c.requires.defaults)))

pub check_shape-check_leaf-requires : goal.check_shape-check_leaf-requires
check_shape-check_leaf-requires t c = is_leaf c.args.shape.now c.in_default.not-Sequence c.in_default.not-SequenceOf c.in_default.not-Choice

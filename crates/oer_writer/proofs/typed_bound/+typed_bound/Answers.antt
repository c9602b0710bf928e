use Rattle.std.proofs.Common.{◌∙◌, Some, ap, map, option_map, sym, subst, drop, rules}
use Rattle.oer_model.specs.AsnValue.{items, seq}
use Rattle.oer_values.specs.ShapeView.{fields_of, type_of}
use Rattle.oer_values.specs.ValueView.{places_of, unknown_of, value_of, values_of}
use Rattle.oer_values.proofs.Values.{value_of-List, value_of-Seq}
use Rattle.oer_values.proofs.Shapes.{type_of-Sequence, type_of-SequenceOf}
use Rattle.oer_writer.specs.Bounds.{BoundsAdditions}
use Rattle.oer_writer.specs.TypeBounds.{BoundsIn, BoundsListIn, BoundsPlaceIn, BoundsRootIn}
use Rattle.oer_writer.proofs.TypeBounds.{fields_end, fields_more, fields_none, fields_start, root_bounds, sequence_bounds}
use Rattle.oer_writer.proofs.typed_bound.+typed_bound.Goals as goal

pub bound_root-returns : goal.bound_root-returns
bound_root-returns t c = root_bounds c.bound_fields.result c.args.done c.in_ok-done.done (fields_of c.args.fields.now) c.args.places.now c.in_ok-done.ensures c.bound_fields.ensures

pub bound_fields-loop-field-init : goal.bound_fields-loop-field-init
bound_fields-loop-field-init t c = fields_start c.args.done (fields_of c.args.fields.now) (places_of c.args.places.now)

pub bound_fields-loop-field-preserved : goal.bound_fields-loop-field-preserved
bound_fields-loop-field-preserved t c =
    let T = type_of c.field-item.result.shape in
    let p = option_map value_of c.in-Some.place.now in
    fields_more c.args.done c.loop-field.done c.in_ok-done.done (fields_of c.args.fields.now) (places_of c.args.places.now) c.args.fields.now c.loop-field.field-index c.field-item.result c.loop-field.rest.now c.in-Some.more.now c.in-Some.place.now c.loop-field-test.true c.field-item.is (search rules) c.loop-field.invariant (subst (λ o. BoundsPlaceIn T c.loop-field.done p o) c.in_ok-done.was c.bound_place.ensures)

pub bound_fields-returns-in_default : goal.bound_fields-returns-in_default
bound_fields-returns-in_default t c = fields_none c.args.done c.loop-field.done (fields_of c.args.fields.now) (places_of c.args.places.now) (drop c.loop-field.field-index c.args.fields.now) c.loop-field.rest.now c.in_default.ensures.cases c.loop-field.invariant

pub bound_fields-returns : goal.bound_fields-returns
bound_fields-returns t c = fields_end c.args.done c.loop-field.done (fields_of c.args.fields.now) (places_of c.args.places.now) c.args.fields.now c.loop-field.field-index c.loop-field.rest.now c.loop-field-test.false c.loop-field.invariant

pub typed_bound-returns-in_ok-done-in-Sequence-Seq : goal.typed_bound-returns-in_ok-done-in-Sequence-Seq
typed_bound-returns-in_ok-done-in-Sequence-Seq t c =
    let s = c.in-Sequence-Seq in
    let o = c.bound_additions.result in
    let done = c.args.done in
    let mid = c.in_ok-done-in-Sequence-Seq.done in
    let ps = places_of s.root.items in
    let qs = places_of s.added.items in
    let us = map unknown_of s.unknown.items in
    let root : BoundsRootIn (fields_of s.fields.items) done ps (Some mid) =
    subst (λ xs. BoundsRootIn (fields_of s.fields.items) done (places_of xs) (Some mid)) c.deref-in-Sequence-Seq.ensures.value
    (subst (λ fs. BoundsRootIn (fields_of fs) done (places_of c.deref-in-Sequence-Seq.result.now) (Some mid)) c.deref.ensures.value c.in_ok-done-in-Sequence-Seq.ensures) in
    let more : BoundsAdditions mid qs us o =
    subst (λ xs. BoundsAdditions mid (places_of xs) us o) c.deref-in-Sequence-Seq-2.ensures.value
    (subst (λ ys. BoundsAdditions mid (places_of c.deref-in-Sequence-Seq-2.result.now) (map unknown_of ys) o) c.deref-in-Sequence-Seq-3.ensures.value c.bound_additions.ensures) in
    let at = sequence_bounds o done mid s.fields.items s.additions-0 ps qs us root more in
    let by_type = subst (λ T. BoundsIn T done (seq ps qs us) o) (sym (ap type_of s.is-0 ∙ type_of-Sequence s.fields s.additions-0)) at in
    subst (λ v. BoundsIn (type_of c.args.shape.now) done v o) (sym (ap value_of s.is-1 ∙ value_of-Seq s.root s.added s.unknown)) by_type

pub typed_bound-returns-in-SequenceOf-List : goal.typed_bound-returns-in-SequenceOf-List
typed_bound-returns-in-SequenceOf-List t c =
    let s = c.in-SequenceOf-List in
    let o = c.bound_list.result in
    let done = c.args.done in
    let T = type_of s.item.value in
    let list : BoundsListIn T done (values_of s.values.items) o =
    subst (λ vs. BoundsListIn T done (values_of vs) o) c.deref-in-SequenceOf-List-2.ensures.value
    (subst (λ x. BoundsListIn (type_of x) done (values_of c.deref-in-SequenceOf-List-2.result.now) o) c.deref-in-SequenceOf-List.ensures c.bound_list.ensures) in
    let by_type = subst (λ U. BoundsIn U done (items (values_of s.values.items)) o) (sym (ap type_of s.is-0 ∙ type_of-SequenceOf s.size-0 s.item)) (list s.size-0) in
    subst (λ v. BoundsIn (type_of c.args.shape.now) done v o) (sym (ap value_of s.is-1 ∙ value_of-List s.values)) by_type

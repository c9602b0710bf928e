use Rattle.std.proofs.Common.{◌++◌, ◌∙◌, map, length, arith, rules, ap, refl, Some, None, append-nil, length-append}
use Rattle.oer_leaves.proofs.Steps.{some_is, none_is, measured_last, measured_none, nowhere}
use Rattle.oer_leaves.proofs.Components.{addition_parts, at_sequence, at_extended, at_list, at_root, at_none, at_later, field_len, known_len, later_found, later_none, length-two, tag_first, values_len}
use Rattle.oer_values.specs.declared.shape.Shape.{Sequence, Choice}
use Rattle.oer_units.specs.Least.{counted, length_octets, tag_octets, unsigned_octets}
use Rattle.oer_model.specs.Bits.{padded}
use Rattle.oer_model.specs.Canonical.{bitmap_octets, canonical_octets, extension_octets, unknown_marks, unknown_octets}
use Rattle.oer_values.specs.ShapeView.{additions_of, fields_of, later_of, type_of}
use Rattle.oer_values.specs.Lookup.{first_with}
use Rattle.oer_values.proofs.Lookups.{first_falls, root_falls}
use Rattle.oer_values.specs.ValueView.{places_of, unknown_of, value_of, values_of}
use Rattle.oer_leaves.specs.Parts.{addition_octets, chosen_octets, field_bits, field_octets, first_bits, known_bits, known_octets, root_octets, values_octets}
use Rattle.oer_writer.proofs.Elements.{booleans_measured}
use Rattle.oer_writer.proofs.measure.+measured.Goals as goal

-- SEQUENCE

pub measured_sequence-returns-in_default-additions :
    goal.measured_sequence-returns-in_default-additions
measured_sequence-returns-in_default-additions t c =
    let s = c.in-Sequence in
    let fs = c.deref-fields.result.now in
    let is = at_sequence c.args.shape.now s.root fs c.args.places.now c.args.added.now c.args.unknown.now (s.is ∙ ap (Sequence s.root) c.in_default-additions.is) c.deref-fields.ensures.value in
    measured_last c.measured_root.result _ _ (root_octets None (fields_of fs) (places_of c.args.places.now)) _ (let len = ap length is in omega (arith, len)) c.measured_root.ensures

pub measured_sequence-returns-in_err-done : goal.measured_sequence-returns-in_err-done
measured_sequence-returns-in_err-done t c =
    let s = c.in-Sequence in
    let fs = c.deref-fields.result.now in
    let xs = c.deref-additions.result.now in
    let x = c.is_extended-extended.result in
    let r = root_octets (Some x) (fields_of fs) (places_of c.args.places.now) in
    let a = addition_octets (additions_of xs) (places_of c.args.added.now) (map unknown_of c.args.unknown.now) in
    let is = at_extended c.args.shape.now s.root c.in-Some.additions fs c.args.places.now xs c.args.added.now c.args.unknown.now x (s.is ∙ ap (Sequence s.root) c.in-Some.is) c.deref-fields.ensures.value c.deref-additions.ensures.value c.is_extended-extended.ensures in
    let len = length-two _ r (extension_octets x a) is in
    measured_none c.from_residual.result _ _ _ c.from_residual.ensures (none_is c.measured_root-2.result _ r c.in_err-done.was c.measured_root-2.ensures) (omega (arith, len))

pub measured_sequence-returns-then-not-extended : goal.measured_sequence-returns-then-not-extended
measured_sequence-returns-then-not-extended t c =
    let s = c.in-Sequence in
    let fs = c.deref-fields.result.now in
    let xs = c.deref-additions.result.now in
    let x = c.is_extended-extended.result in
    let r = root_octets (Some x) (fields_of fs) (places_of c.args.places.now) in
    let a = addition_octets (additions_of xs) (places_of c.args.added.now) (map unknown_of c.args.unknown.now) in
    let is = at_extended c.args.shape.now s.root c.in-Some.additions fs c.args.places.now xs c.args.added.now c.args.unknown.now x (s.is ∙ ap (Sequence s.root) c.in-Some.is) c.deref-fields.ensures.value c.deref-additions.ensures.value c.is_extended-extended.ensures in
    let len = ap length (is ∙ ap (λ y. r ++ extension_octets y a) c.if-not-extended.true ∙ append-nil r) in
    let n = some_is c.measured_root-2.result _ _ r c.in_ok-done.was c.measured_root-2.ensures in
    omega (arith, len, n)

pub measured_sequence-returns : goal.measured_sequence-returns
measured_sequence-returns t c =
    let s = c.in-Sequence in
    let fs = c.deref-fields.result.now in
    let xs = c.deref-additions.result.now in
    let x = c.is_extended-extended.result in
    let r = root_octets (Some x) (fields_of fs) (places_of c.args.places.now) in
    let a = addition_octets (additions_of xs) (places_of c.args.added.now) (map unknown_of c.args.unknown.now) in
    let is = at_extended c.args.shape.now s.root c.in-Some.additions fs c.args.places.now xs c.args.added.now c.args.unknown.now x (s.is ∙ ap (Sequence s.root) c.in-Some.is) c.deref-fields.ensures.value c.deref-additions.ensures.value c.is_extended-extended.ensures in
    let len = length-two _ r a (is ∙ ap (λ y. r ++ extension_octets y a) c.if-not-extended.false) in
    let n = some_is c.measured_root-2.result _ _ r c.in_ok-done.was c.measured_root-2.ensures in
    measured_last c.measured_extension.result _ _ a _ (omega (arith, len, n)) c.measured_extension.ensures

pub measured_root-returns-in_err-done : goal.measured_root-returns-in_err-done
measured_root-returns-in_err-done t c =
    let fs = fields_of c.args.fields.now in
    let ps = places_of c.args.places.now in
    let p = padded (first_bits c.args.extended ++ field_bits fs ps) in
    let len = length-append p (field_octets fs ps) in
    measured_none c.from_residual.result _ _ _ c.from_residual.ensures (none_is c.measured_preamble.result _ p c.in_err-done.was c.measured_preamble.ensures) (omega (arith, len))

pub measured_root-returns : goal.measured_root-returns
measured_root-returns t c =
    let fs = fields_of c.args.fields.now in
    let ps = places_of c.args.places.now in
    let p = padded (first_bits c.args.extended ++ field_bits fs ps) in
    let len = length-append p (field_octets fs ps) in
    let n = some_is c.measured_preamble.result _ _ p c.in_ok-done.was c.measured_preamble.ensures in
    measured_last c.measured_fields.result _ _ (field_octets fs ps) _ (omega (arith, len, n)) c.measured_fields.ensures

pub measured_extension-returns-in_err-done : goal.measured_extension-returns-in_err-done
measured_extension-returns-in_err-done t c =
    let xs = c.args.additions.now in
    let qs = places_of c.args.added.now in
    let us = map unknown_of c.args.unknown.now in
    let b = bitmap_octets (known_bits (additions_of xs) qs ++ unknown_marks (length xs) us) in
    let len = length-two _ b (known_octets (additions_of xs) qs ++ unknown_octets us) (addition_parts xs qs us) in
    measured_none c.from_residual.result _ _ _ c.from_residual.ensures (none_is c.ok.result _ b c.in_err-done.was (nowhere c.put_bitmap.result c.ok.result _ b None c.ok.ensures.value c.put_bitmap.ensures)) (omega (arith, len))

pub measured_extension-returns-in_err-done-2 : goal.measured_extension-returns-in_err-done-2
measured_extension-returns-in_err-done-2 t c =
    let xs = c.args.additions.now in
    let qs = places_of c.args.added.now in
    let us = map unknown_of c.args.unknown.now in
    let b = bitmap_octets (known_bits (additions_of xs) qs ++ unknown_marks (length xs) us) in
    let k = known_octets (additions_of xs) qs in
    let len = length-two _ b (k ++ unknown_octets us) (addition_parts xs qs us) in
    let n = some_is c.ok.result _ _ b c.in_ok-done.was (nowhere c.put_bitmap.result c.ok.result _ b None c.ok.ensures.value c.put_bitmap.ensures) in
    measured_none c.from_residual-in_err-done-2.result _ _ _ c.from_residual-in_err-done-2.ensures (none_is c.measured_additions.result _ k c.in_err-done-2.was c.measured_additions.ensures) (omega (arith, len, n, length-append k (unknown_octets us)))

pub measured_extension-returns : goal.measured_extension-returns
measured_extension-returns t c =
    let xs = c.args.additions.now in
    let qs = places_of c.args.added.now in
    let us = map unknown_of c.args.unknown.now in
    let b = bitmap_octets (known_bits (additions_of xs) qs ++ unknown_marks (length xs) us) in
    let k = known_octets (additions_of xs) qs in
    let len = length-two _ b (k ++ unknown_octets us) (addition_parts xs qs us) in
    let n = some_is c.ok.result _ _ b c.in_ok-done.was (nowhere c.put_bitmap.result c.ok.result _ b None c.ok.ensures.value c.put_bitmap.ensures) in
    let m = some_is c.measured_additions.result _ _ k c.in_ok-done-2.was c.measured_additions.ensures in
    measured_last c.ok-2.result _ _ (unknown_octets us) _ (omega (arith, len, n, m, length-append k (unknown_octets us))) (nowhere c.put_unknown.result c.ok-2.result _ (unknown_octets us) None c.ok-2.ensures.value c.put_unknown.ensures)

-- SEQUENCE OF

pub measured_list-returns-in_err-done : goal.measured_list-returns-in_err-done
measured_list-returns-in_err-done t c =
    let s = c.in-SequenceOf in
    let q = counted (unsigned_octets (length c.args.values.now)) in
    let is = at_list c.args.shape.now s.size s.item s.item.value c.args.values.now (length c.args.values.now) s.is refl refl in
    let len = length-two _ q (values_octets (type_of s.item.value) (values_of c.args.values.now)) is in
    measured_none c.from_residual.result _ _ _ c.from_residual.ensures (none_is c.ok.result _ q c.in_err-done.was (nowhere c.put_quantity.result c.ok.result _ q None c.ok.ensures.value c.put_quantity.ensures)) (omega (arith, len))

pub measured_list-returns : goal.measured_list-returns
measured_list-returns t c =
    let s = c.in-SequenceOf in
    let q = counted (unsigned_octets (length c.args.values.now)) in
    let rest = values_octets (type_of c.deref.result.now) (values_of c.args.values.now) in
    let is = at_list c.args.shape.now s.size s.item c.deref.result.now c.args.values.now (length c.args.values.now) s.is c.deref.ensures refl in
    let len = length-two _ q rest is in
    let n = some_is c.ok.result _ _ q c.in_ok-done.was (nowhere c.put_quantity.result c.ok.result _ q None c.ok.ensures.value c.put_quantity.ensures) in
    measured_last c.measured_values.result _ _ rest _ (omega (arith, len, n)) c.measured_values.ensures

-- CHOICE

pub measured_chosen-returns-in_err-done : goal.measured_chosen-returns-in_err-done
measured_chosen-returns-in_err-done t c =
    let s = c.in-Choice in
    let o = tag_octets c.args.tag in
    let first = tag_first c.args.shape.now s.root s.additions c.args.tag (value_of c.args.value.now) s.is in
    let len = length-two _ o first.0 first.1 in
    measured_none c.from_residual.result _ _ _ c.from_residual.ensures (none_is c.ok.result _ o c.in_err-done.was (nowhere c.put_tag_octets.result c.ok.result _ o None c.ok.ensures.value c.put_tag_octets.ensures)) (omega (arith, len))

pub measured_chosen-measured-requires : goal.measured_chosen-measured-requires
measured_chosen-measured-requires t c =
    let s = c.in-Choice in
    let falls = root_falls c.args.tag c.args.shape.now s.root s.additions c.in-Some.alternative.now s.is (c.in-Some.ensures.is ∙ ap (first_with c.args.tag) c.deref-alternatives.ensures.value) in
    omega (arith, falls, c.decreases)

pub measured_chosen-returns-in-Some : goal.measured_chosen-returns-in-Some
measured_chosen-returns-in-Some t c =
    let s = c.in-Choice in
    let x = c.in-Some.alternative.now in
    let o = tag_octets c.args.tag in
    let rest = canonical_octets (type_of x.shape) (value_of c.args.value.now) in
    let is = at_root c.args.shape.now s.root s.additions c.args.tag c.deref-alternatives.result.now x (value_of c.args.value.now) s.is c.deref-alternatives.ensures.value c.in-Some.ensures.is in
    let len = length-two _ o rest is in
    let n = some_is c.ok.result _ _ o c.in_ok-done.was (nowhere c.put_tag_octets.result c.ok.result _ o None c.ok.ensures.value c.put_tag_octets.ensures) in
    measured_last c.measured.result _ _ rest _ (omega (arith, len, n)) c.measured.ensures

pub measured_chosen-returns-in_default-additions :
    goal.measured_chosen-returns-in_default-additions
measured_chosen-returns-in_default-additions t c =
    let s = c.in-Choice in
    let o = tag_octets c.args.tag in
    let len = ap length (at_none c.args.shape.now s.root c.args.tag c.deref-alternatives.result.now (value_of c.args.value.now) (s.is ∙ ap (Choice s.root) c.in_default-additions.is) c.deref-alternatives.ensures.value c.in_default-with_tag.ensures.is) in
    let n = some_is c.ok.result _ _ o c.in_ok-done.was (nowhere c.put_tag_octets.result c.ok.result _ o None c.ok.ensures.value c.put_tag_octets.ensures) in
    omega (arith, len, n)

pub measured_chosen-returns : goal.measured_chosen-returns
measured_chosen-returns t c =
    let s = c.in-Choice in
    let ys = c.deref.result.now in
    let more = c.in-Some-additions in
    let o = tag_octets c.args.tag in
    let rest = chosen_octets (later_of ys) c.args.tag (value_of c.args.value.now) in
    let is = at_later c.args.shape.now s.root more.additions c.args.tag c.deref-alternatives.result.now ys (value_of c.args.value.now) (s.is ∙ ap (Choice s.root) more.is) c.deref-alternatives.ensures.value c.deref.ensures.value c.in_default-with_tag.ensures.is in
    let len = length-two _ o rest is in
    let n = some_is c.ok.result _ _ o c.in_ok-done.was (nowhere c.put_tag_octets.result c.ok.result _ o None c.ok.ensures.value c.put_tag_octets.ensures) in
    measured_last c.measured_later.result _ _ rest _ (omega (arith, len, n)) c.measured_later.ensures

-- additions

pub measured_additions-returns-in_err-done : goal.measured_additions-returns-in_err-done
measured_additions-returns-in_err-done t c =
    let i = c.loop-addition.addition-index in
    let len = known_len c.args.additions.now i c.addition-item.result c.loop-addition.rest.now c.in-Some.more.now c.in-Some.place.now c.loop-addition-test.true c.addition-item.is (search rules) in
    measured_none c.from_residual.result _ _ _ c.from_residual.ensures (none_is c.measured_addition.result _ _ c.in_err-done.was c.measured_addition.ensures) (omega (arith, c.loop-addition.invariant, len))

pub measured_additions-loop-addition-preserved : goal.measured_additions-loop-addition-preserved
measured_additions-loop-addition-preserved t c =
    let i = c.loop-addition.addition-index in
    let len = known_len c.args.additions.now i c.addition-item.result c.loop-addition.rest.now c.in-Some.more.now c.in-Some.place.now c.loop-addition-test.true c.addition-item.is (search rules) in
    let part = some_is c.measured_addition.result _ _ _ c.in_ok-done.was c.measured_addition.ensures in
    omega (arith, c.loop-addition.invariant, len, part)

-- components

pub measured_fields-returns-in_err-done : goal.measured_fields-returns-in_err-done
measured_fields-returns-in_err-done t c =
    let i = c.loop-field.field-index in
    let len = field_len c.args.fields.now i c.field-item.result c.loop-field.rest.now c.in-Some.more.now c.in-Some.place.now c.loop-field-test.true c.field-item.is (search rules) in
    measured_none c.from_residual.result _ _ _ c.from_residual.ensures (none_is c.measured_field.result _ _ c.in_err-done.was c.measured_field.ensures) (omega (arith, c.loop-field.invariant, len))

pub measured_fields-loop-field-preserved : goal.measured_fields-loop-field-preserved
measured_fields-loop-field-preserved t c =
    let i = c.loop-field.field-index in
    let len = field_len c.args.fields.now i c.field-item.result c.loop-field.rest.now c.in-Some.more.now c.in-Some.place.now c.loop-field-test.true c.field-item.is (search rules) in
    let part = some_is c.measured_field.result _ _ _ c.in_ok-done.was c.measured_field.ensures in
    omega (arith, c.loop-field.invariant, len, part)

-- elements

pub measured_values-returns-in-Boolean : goal.measured_values-returns-in-Boolean
measured_values-returns-in-Boolean t c = booleans_measured c.measured_booleans.result _ _ _ c.in-Boolean.is c.measured_booleans.ensures

pub measured_values-returns-in_err-done : goal.measured_values-returns-in_err-done
measured_values-returns-in_err-done t c =
    let len = values_len (type_of c.args.item.now) c.args.values.now c.loop-value.value-index c.value-item.result c.loop-value-test.true c.value-item.is in
    measured_none c.from_residual.result _ _ _ c.from_residual.ensures (none_is c.measured.result _ _ c.in_err-done.was c.measured.ensures) (omega (arith, c.loop-value.invariant, len))

pub measured_values-loop-value-preserved : goal.measured_values-loop-value-preserved
measured_values-loop-value-preserved t c =
    let len = values_len (type_of c.args.item.now) c.args.values.now c.loop-value.value-index c.value-item.result c.loop-value-test.true c.value-item.is in
    let part = some_is c.measured.result _ _ _ c.in_ok-done.was c.measured.ensures in
    omega (arith, c.loop-value.invariant, len, part)

-- alternatives

pub measured_later-measured-requires : goal.measured_later-measured-requires
measured_later-measured-requires t c =
    let smaller = first_falls c.args.tag c.args.alternatives.now c.in-Some.alternative.now c.in-Some.ensures.is in
    omega (arith, smaller, c.decreases)

pub measured_later-returns-in_err-length-in-Some : goal.measured_later-returns-in_err-length-in-Some
measured_later-returns-in_err-length-in-Some t c =
    let is = later_found c.args.alternatives.now c.in-Some.alternative.now c.args.tag (value_of c.args.value.now) c.in-Some.ensures.is in
    let o = canonical_octets (type_of c.in-Some.alternative.now.shape) (value_of c.args.value.now) in
    let many = none_is c.measured.result 0 o c.in_err-length-in-Some.was c.measured.ensures in
    let len = ap length is in
    measured_none c.from_residual.result _ _ _ c.from_residual.ensures many (omega (arith, len, length-append (length_octets (length o)) o))

pub measured_later-returns-in_ok-length-in-Some : goal.measured_later-returns-in_ok-length-in-Some
measured_later-returns-in_ok-length-in-Some t c =
    let is = later_found c.args.alternatives.now c.in-Some.alternative.now c.args.tag (value_of c.args.value.now) c.in-Some.ensures.is in
    let o = canonical_octets (type_of c.in-Some.alternative.now.shape) (value_of c.args.value.now) in
    let n = some_is c.measured.result 0 _ o c.in_ok-length-in-Some.was c.measured.ensures in
    let len = ap length is in
    measured_last c.open_len.result _ _ (counted o) _ (omega (arith, len)) (c.open_len.ensures o (omega (arith, n)))

pub measured_later-returns-in-None : goal.measured_later-returns-in-None
measured_later-returns-in-None t c =
    let len = ap length (later_none c.args.alternatives.now c.args.tag (value_of c.args.value.now) c.in-None.ensures.is) in
    omega (arith, len)

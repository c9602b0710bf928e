use Rattle.std.proofs.Common.{◌+◌, ◌++◌, ◌∙◌, [], map, length, arith, rules, ap, sym, refl, drop, option_map, Some, None, append-nil, append_assoc}
use Rattle.oer_units.specs.Least.{counted, tag_octets, unsigned_octets}
use Rattle.oer_model.specs.Bits.{padded}
use Rattle.oer_model.specs.Canonical.{bitmap_octets, canonical_octets, extension_octets, unknown_marks, unknown_octets}
use Rattle.oer_values.specs.ShapeView.{additions_of, fields_of, later_of, need_of, type_of}
use Rattle.oer_values.specs.ValueView.{places_of, unknown_of, value_of, values_of}
use Rattle.oer_values.specs.declared.shape.Shape.{Sequence, Choice}
use Rattle.oer_values.specs.Lookup.{first_with}
use Rattle.oer_values.proofs.Lookups.{first_falls, root_falls}
use Rattle.oer_writer.proofs.Sizes.{fields_fall, additions_fall, later_fall}
use Rattle.oer_leaves.specs.Parts.{addition_octets, chosen_octets, counted_place, field_bits, field_octets, first_bits, kept_place, known_bits, known_octets, place_octets_of, root_octets, values_octets}
use Rattle.oer_leaves.proofs.Steps.{ahead_more, ahead_failed, all_same, all_then, head_then, nothing_wrote, passed, passed_then, same_wrote, wrote_then}
use Rattle.oer_leaves.proofs.Components.{addition_parts, at_sequence, at_extended, at_list, at_root, at_none, at_later, field_step, known_step, later_found, later_none, tag_first, values_step}
use Rattle.oer_writer.proofs.Elements.{booleans_wrote}
use Rattle.oer_writer.proofs.put.+put.Goals as goal

-- SEQUENCE

pub put_sequence-returns-in_default-additions : goal.put_sequence-returns-in_default-additions
put_sequence-returns-in_default-additions g t c =
    let s = c.in-Sequence in
    let fs = c.deref-fields.result.now in
    let is = at_sequence c.args.shape.now s.root fs c.args.places.now c.args.added.now c.args.unknown.now (s.is ∙ ap (Sequence s.root) c.in_default-additions.is) c.deref-fields.ensures.value in
    same_wrote c.put_root.result _ (root_octets None (fields_of fs) (places_of c.args.places.now)) _ _ _ _ _ is c.put_root.ensures

pub put_sequence-returns-in_err-done : goal.put_sequence-returns-in_err-done
put_sequence-returns-in_err-done g t c =
    let s = c.in-Sequence in
    let fs = c.deref-fields.result.now in
    let xs = c.deref-additions.result.now in
    let x = c.is_extended-extended.result in
    let is = at_extended c.args.shape.now s.root c.in-Some.additions fs c.args.places.now xs c.args.added.now c.args.unknown.now x (s.is ∙ ap (Sequence s.root) c.in-Some.is) c.deref-fields.ensures.value c.deref-additions.ensures.value c.is_extended-extended.ensures in
    passed c.from_residual.result _ c.args.done (root_octets (Some x) (fields_of fs) (places_of c.args.places.now)) (extension_octets x (addition_octets (additions_of xs) (places_of c.args.added.now) (map unknown_of c.args.unknown.now))) _ _ _ _ _ is c.from_residual.ensures.1 c.in_err-done.ensures

pub put_sequence-returns-then-not-extended : goal.put_sequence-returns-then-not-extended
put_sequence-returns-then-not-extended g t c =
    let s = c.in-Sequence in
    let fs = c.deref-fields.result.now in
    let xs = c.deref-additions.result.now in
    let x = c.is_extended-extended.result in
    let r = root_octets (Some x) (fields_of fs) (places_of c.args.places.now) in
    let a = addition_octets (additions_of xs) (places_of c.args.added.now) (map unknown_of c.args.unknown.now) in
    let is = at_extended c.args.shape.now s.root c.in-Some.additions fs c.args.places.now xs c.args.added.now c.args.unknown.now x (s.is ∙ ap (Sequence s.root) c.in-Some.is) c.deref-fields.ensures.value c.deref-additions.ensures.value c.is_extended-extended.ensures in
    all_same c.args.done c.in_ok-done.done r _ _ _ _ _ (is ∙ ap (λ y. r ++ extension_octets y a) c.if-not-extended.true ∙ append-nil r) c.in_ok-done.ensures

pub put_sequence-returns : goal.put_sequence-returns
put_sequence-returns g t c =
    let s = c.in-Sequence in
    let fs = c.deref-fields.result.now in
    let xs = c.deref-additions.result.now in
    let x = c.is_extended-extended.result in
    let r = root_octets (Some x) (fields_of fs) (places_of c.args.places.now) in
    let a = addition_octets (additions_of xs) (places_of c.args.added.now) (map unknown_of c.args.unknown.now) in
    let is = at_extended c.args.shape.now s.root c.in-Some.additions fs c.args.places.now xs c.args.added.now c.args.unknown.now x (s.is ∙ ap (Sequence s.root) c.in-Some.is) c.deref-fields.ensures.value c.deref-additions.ensures.value c.is_extended-extended.ensures in
    wrote_then c.put_extension.result _ c.in_ok-done.done r a _ _ _ _ _ _ _ (is ∙ ap (λ y. r ++ extension_octets y a) c.if-not-extended.false) c.in_ok-done.ensures c.put_extension.ensures

pub put_root-returns-in_err-done : goal.put_root-returns-in_err-done
put_root-returns-in_err-done g t c =
    let fs = fields_of c.args.fields.now in
    let ps = places_of c.args.places.now in
    passed c.from_residual.result _ c.args.done (padded (first_bits c.args.extended ++ field_bits fs ps)) (field_octets fs ps) _ _ _ _ _ refl c.from_residual.ensures.1 c.in_err-done.ensures

pub put_root-returns : goal.put_root-returns
put_root-returns g t c =
    let fs = fields_of c.args.fields.now in
    let ps = places_of c.args.places.now in
    wrote_then c.put_fields.result _ c.in_ok-done.done (padded (first_bits c.args.extended ++ field_bits fs ps)) (field_octets fs ps) _ _ _ _ _ _ _ refl c.in_ok-done.ensures c.put_fields.ensures

pub put_extension-returns-in_err-done : goal.put_extension-returns-in_err-done
put_extension-returns-in_err-done g t c =
    let xs = c.args.additions.now in
    let qs = places_of c.args.added.now in
    let us = map unknown_of c.args.unknown.now in
    passed c.from_residual.result _ c.args.done (bitmap_octets (known_bits (additions_of xs) qs ++ unknown_marks (length xs) us)) (known_octets (additions_of xs) qs ++ unknown_octets us) _ _ _ _ _ (addition_parts xs qs us) c.from_residual.ensures.1 c.in_err-done.ensures

pub put_extension-returns-in_err-done-2 : goal.put_extension-returns-in_err-done-2
put_extension-returns-in_err-done-2 g t c =
    let xs = c.args.additions.now in
    let qs = places_of c.args.added.now in
    let us = map unknown_of c.args.unknown.now in
    passed_then c.from_residual-in_err-done-2.result _ c.args.done c.in_ok-done.done (bitmap_octets (known_bits (additions_of xs) qs ++ unknown_marks (length xs) us)) (known_octets (additions_of xs) qs) (unknown_octets us) _ _ _ _ _ _ _ (addition_parts xs qs us) c.from_residual-in_err-done-2.ensures.1 c.in_ok-done.ensures c.in_err-done-2.ensures

pub put_extension-returns : goal.put_extension-returns
put_extension-returns g t c =
    let xs = c.args.additions.now in
    let qs = places_of c.args.added.now in
    let us = map unknown_of c.args.unknown.now in
    let b = bitmap_octets (known_bits (additions_of xs) qs ++ unknown_marks (length xs) us) in
    let k = known_octets (additions_of xs) qs in
    let two = all_then c.args.done c.in_ok-done.done c.in_ok-done-2.done b k _ _ _ _ _ _ c.in_ok-done.ensures c.in_ok-done-2.ensures in
    wrote_then c.put_unknown.result c.args.done c.in_ok-done-2.done (b ++ k) (unknown_octets us) _ _ _ _ _ _ _ (addition_parts xs qs us ∙ sym (append_assoc b k (unknown_octets us))) two c.put_unknown.ensures

-- SEQUENCE OF

pub put_list-returns-in_err-done : goal.put_list-returns-in_err-done
put_list-returns-in_err-done g t c =
    let s = c.in-SequenceOf in
    let is = at_list c.args.shape.now s.size s.item s.item.value c.args.values.now (length c.args.values.now) s.is refl refl in
    passed c.from_residual.result _ c.args.done (counted (unsigned_octets (length c.args.values.now))) (values_octets (type_of s.item.value) (values_of c.args.values.now)) _ _ _ _ _ is c.from_residual.ensures.1 c.in_err-done.ensures

pub put_list-returns : goal.put_list-returns
put_list-returns g t c =
    let s = c.in-SequenceOf in
    let is = at_list c.args.shape.now s.size s.item c.deref.result.now c.args.values.now (length c.args.values.now) s.is c.deref.ensures refl in
    wrote_then c.put_values.result _ c.in_ok-done.done (counted (unsigned_octets (length c.args.values.now))) (values_octets (type_of c.deref.result.now) (values_of c.args.values.now)) _ _ _ _ _ _ _ is c.in_ok-done.ensures c.put_values.ensures

-- CHOICE

pub put_chosen-returns-in_err-done : goal.put_chosen-returns-in_err-done
put_chosen-returns-in_err-done g t c =
    let s = c.in-Choice in
    let first = tag_first c.args.shape.now s.root s.additions c.args.tag (value_of c.args.value.now) s.is in
    passed c.from_residual.result _ c.args.done (tag_octets c.args.tag) first.0 _ _ _ _ _ first.1 c.from_residual.ensures.1 c.in_err-done.ensures

pub put_chosen-put-requires : goal.put_chosen-put-requires
put_chosen-put-requires g t c κs within =
    let s = c.in-Choice in
    let falls = root_falls c.args.tag c.args.shape.now s.root s.additions c.in-Some.alternative.now s.is (c.in-Some.ensures.is ∙ ap (first_with c.args.tag) c.deref-alternatives.ensures.value) in
    (omega (arith, falls, c.decreases), within)

pub put_chosen-returns-in-Some : goal.put_chosen-returns-in-Some
put_chosen-returns-in-Some g t c =
    let s = c.in-Choice in
    let x = c.in-Some.alternative.now in
    let is = at_root c.args.shape.now s.root s.additions c.args.tag c.deref-alternatives.result.now x (value_of c.args.value.now) s.is c.deref-alternatives.ensures.value c.in-Some.ensures.is in
    wrote_then c.put.result _ c.in_ok-done.done (tag_octets c.args.tag) (canonical_octets (type_of x.shape) (value_of c.args.value.now)) _ _ _ _ _ _ _ is c.in_ok-done.ensures c.put.ensures

pub put_chosen-returns-in_default-additions : goal.put_chosen-returns-in_default-additions
put_chosen-returns-in_default-additions g t c =
    let s = c.in-Choice in
    let is = at_none c.args.shape.now s.root c.args.tag c.deref-alternatives.result.now (value_of c.args.value.now) (s.is ∙ ap (Choice s.root) c.in_default-additions.is) c.deref-alternatives.ensures.value c.in_default-with_tag.ensures.is in
    all_same c.args.done c.in_ok-done.done (tag_octets c.args.tag) _ _ _ _ _ is c.in_ok-done.ensures

pub put_chosen-returns : goal.put_chosen-returns
put_chosen-returns g t c =
    let s = c.in-Choice in
    let ys = c.deref.result.now in
    let more = c.in-Some-additions in
    let is = at_later c.args.shape.now s.root more.additions c.args.tag c.deref-alternatives.result.now ys (value_of c.args.value.now) (s.is ∙ ap (Choice s.root) more.is) c.deref-alternatives.ensures.value c.deref.ensures.value c.in_default-with_tag.ensures.is in
    wrote_then c.put_later.result _ c.in_ok-done.done (tag_octets c.args.tag) (chosen_octets (later_of ys) c.args.tag (value_of c.args.value.now)) _ _ _ _ _ _ _ is c.in_ok-done.ensures c.put_later.ensures

-- components and additions

pub put_fields-returns-in_err-done : goal.put_fields-returns-in_err-done
put_fields-returns-in_err-done g t c =
    let i = c.loop-field.field-index in
    let x = c.field-item.result in
    let step = field_step c.args.fields.now i x c.loop-field.rest.now c.in-Some.more.now c.in-Some.place.now c.loop-field-test.true c.field-item.is (search rules) in
    ahead_failed c.from_residual.result _ c.args.done c.loop-field.done _ _ (place_octets_of (type_of x.shape) (kept_place (need_of x.need) (type_of x.shape) (option_map value_of c.in-Some.place.now))) (field_octets (fields_of (drop (i + 1) c.args.fields.now)) (places_of c.in-Some.more.now)) _ _ _ _ _ _ c.loop-field.invariant step c.from_residual.ensures.1 c.in_err-done.ensures

pub put_fields-loop-field-preserved : goal.put_fields-loop-field-preserved
put_fields-loop-field-preserved g t c =
    let i = c.loop-field.field-index in
    let x = c.field-item.result in
    let step = field_step c.args.fields.now i x c.loop-field.rest.now c.in-Some.more.now c.in-Some.place.now c.loop-field-test.true c.field-item.is (search rules) in
    ahead_more c.args.done c.loop-field.done c.in_ok-done.done _ _ (place_octets_of (type_of x.shape) (kept_place (need_of x.need) (type_of x.shape) (option_map value_of c.in-Some.place.now))) (field_octets (fields_of (drop (i + 1) c.args.fields.now)) (places_of c.in-Some.more.now)) _ _ _ _ _ _ c.loop-field.invariant step c.in_ok-done.ensures

pub put_additions-returns-in_err-done : goal.put_additions-returns-in_err-done
put_additions-returns-in_err-done g t c =
    let i = c.loop-addition.addition-index in
    let x = c.addition-item.result in
    let step = known_step c.args.additions.now i x c.loop-addition.rest.now c.in-Some.more.now c.in-Some.place.now c.loop-addition-test.true c.addition-item.is (search rules) in
    ahead_failed c.from_residual.result _ c.args.done c.loop-addition.done _ _ (counted_place (type_of x.shape) (option_map value_of c.in-Some.place.now)) (known_octets (additions_of (drop (i + 1) c.args.additions.now)) (places_of c.in-Some.more.now)) _ _ _ _ _ _ c.loop-addition.invariant step c.from_residual.ensures.1 c.in_err-done.ensures

pub put_additions-loop-addition-preserved : goal.put_additions-loop-addition-preserved
put_additions-loop-addition-preserved g t c =
    let i = c.loop-addition.addition-index in
    let x = c.addition-item.result in
    let step = known_step c.args.additions.now i x c.loop-addition.rest.now c.in-Some.more.now c.in-Some.place.now c.loop-addition-test.true c.addition-item.is (search rules) in
    ahead_more c.args.done c.loop-addition.done c.in_ok-done.done _ _ (counted_place (type_of x.shape) (option_map value_of c.in-Some.place.now)) (known_octets (additions_of (drop (i + 1) c.args.additions.now)) (places_of c.in-Some.more.now)) _ _ _ _ _ _ c.loop-addition.invariant step c.in_ok-done.ensures

-- elements

pub put_values-returns-in-Boolean : goal.put_values-returns-in-Boolean
put_values-returns-in-Boolean g t c = booleans_wrote c.put_booleans.result _ _ _ _ _ _ _ c.in-Boolean.is c.put_booleans.ensures

pub put_values-returns-in_err-done : goal.put_values-returns-in_err-done
put_values-returns-in_err-done g t c =
    let i = c.loop-value.value-index in
    let T = type_of c.args.item.now in
    let step = values_step T c.args.values.now i c.value-item.result c.loop-value-test.true c.value-item.is in
    ahead_failed c.from_residual.result _ c.args.done c.loop-value.done _ _ (canonical_octets T (value_of c.value-item.result)) (values_octets T (values_of (drop (i + 1) c.args.values.now))) _ _ _ _ _ _ c.loop-value.invariant step c.from_residual.ensures.1 c.in_err-done.ensures

pub put_values-loop-value-preserved : goal.put_values-loop-value-preserved
put_values-loop-value-preserved g t c =
    let i = c.loop-value.value-index in
    let T = type_of c.args.item.now in
    let step = values_step T c.args.values.now i c.value-item.result c.loop-value-test.true c.value-item.is in
    ahead_more c.args.done c.loop-value.done c.in_ok-done.done _ _ (canonical_octets T (value_of c.value-item.result)) (values_octets T (values_of (drop (i + 1) c.args.values.now))) _ _ _ _ _ _ c.loop-value.invariant step c.in_ok-done.ensures

-- alternatives

pub put_later-put-requires : goal.put_later-put-requires
put_later-put-requires g t c κs within =
    let smaller = first_falls c.args.tag c.args.alternatives.now c.in-Some.alternative.now c.in-Some.ensures.is in
    (omega (arith, smaller, c.decreases), within)

pub put_later-returns-in_err-done-in-Some : goal.put_later-returns-in_err-done-in-Some
put_later-returns-in_err-done-in-Some g t c =
    let is = later_found c.args.alternatives.now c.in-Some.alternative.now c.args.tag (value_of c.args.value.now) c.in-Some.ensures.is in
    passed c.from_residual.result _ c.args.done (counted (canonical_octets (type_of c.in-Some.alternative.now.shape) (value_of c.args.value.now))) [] _ _ _ _ _ (is ∙ sym (append-nil _)) c.from_residual.ensures.1 c.in_err-done-in-Some.ensures

pub put_later-returns-in_ok-done-in-Some : goal.put_later-returns-in_ok-done-in-Some
put_later-returns-in_ok-done-in-Some g t c =
    let is = later_found c.args.alternatives.now c.in-Some.alternative.now c.args.tag (value_of c.args.value.now) c.in-Some.ensures.is in
    let o = canonical_octets (type_of c.in-Some.alternative.now.shape) (value_of c.args.value.now) in
    same_wrote c.put.result _ (counted o) _ _ _ _ _ is (head_then c.put.result _ c.in_ok-done-in-Some.done o _ _ _ _ _ _ c.in_ok-done-in-Some.ensures c.put.ensures)

pub put_later-returns-in-None : goal.put_later-returns-in-None
put_later-returns-in-None g t c =
    nothing_wrote c.args.done _ _ _ (later_none c.args.alternatives.now c.args.tag (value_of c.args.value.now) c.in-None.ensures.is)

pub put_addition-returns-in_ok-done-in-Some : goal.put_addition-returns-in_ok-done-in-Some
put_addition-returns-in_ok-done-in-Some g t c =
    let T = type_of c.args.addition.now.shape in
    same_wrote c.put.result _ (counted (canonical_octets T (value_of c.in-Some.value))) _ _ _ _ _ (ap (λ p. counted_place T (option_map value_of p)) c.in-Some.is) (head_then c.put.result _ c.in_ok-done-in-Some.done (canonical_octets T (value_of c.in-Some.value)) _ _ _ _ _ _ c.in_ok-done-in-Some.ensures c.put.ensures)

-- measures

pub put_sequence-put_root-requires : goal.put_sequence-put_root-requires
put_sequence-put_root-requires g t c κs within =
    let s = c.in-Sequence in
    (rw (c.deref-fields.ensures.value) (fields_fall c.args.shape.now s.root s.additions t s.is c.decreases), within)

pub put_sequence-put_root-requires-2 : goal.put_sequence-put_root-requires-2
put_sequence-put_root-requires-2 g t c κs within =
    let s = c.in-Sequence in
    (rw (c.deref-fields.ensures.value) (fields_fall c.args.shape.now s.root s.additions t s.is c.decreases), within)

pub put_sequence-put_extension-requires : goal.put_sequence-put_extension-requires
put_sequence-put_extension-requires g t c κs within =
    let s = c.in-Sequence in
    (rw (c.deref-additions.ensures.value) (additions_fall c.args.shape.now s.root s.additions c.in-Some.additions t s.is c.in-Some.is c.decreases), within)

pub put_chosen-put_later-requires : goal.put_chosen-put_later-requires
put_chosen-put_later-requires g t c κs within =
    let s = c.in-Choice in
    (rw (c.deref.ensures.value) (later_fall c.args.shape.now s.root s.additions c.in-Some-additions.additions t s.is c.in-Some-additions.is c.decreases), within)

use Rattle.std.proofs.Common.{◌∙◌, ◌+◌, add-one, ap, length, refl, sym, subst}
use Rattle.oer_model.specs.AsnType.{extensible_sequence}
use Rattle.oer_model.specs.Bits.{first_bit}
use Rattle.oer_model.specs.Checking.{check_value}
use Rattle.oer_model.specs.Constraints.{optional}
use Rattle.oer_model.specs.Parts.{to_addition}
use Rattle.oer_values.specs.ShapeView.{additions_of, fields_of, type_of}
use Rattle.oer_checker.specs.BitView.{bits_in}
use Rattle.oer_checker.specs.Places.{place_of}
use Rattle.oer_checker.proofs.FieldSteps.{count_is, extensible_stop, map_stop}
use Rattle.oer_parts.proofs.Inside.{extension_checked, extension_look, marks_checked, marks_look, no_extension_look, not_got, root_checked}
use Rattle.oer_checker.proofs.PartSteps.{has_step, no_such}
use Rattle.oer_checker.proofs.ShapeCases.{not_sequence}
use Rattle.oer_checker.proofs.TypeSteps.{as_extensible, as_sequence, by_type}
use Rattle.oer_model.specs.Constraints.{KeepsLimits}
use Rattle.oer_model.specs.Fits.{DefaultsFit}
use Rattle.oer_parts.proofs.Standing.{added_stands}
use Rattle.oer_parts.proofs.walk.addition_of.Goals as goal

pub returns-in_default-clause-found : goal.returns-in_default-clause-found
returns-in_default-clause-found c = no_such (type_of c.args.shape.now) (to_addition c.args.index) _ (not_sequence c.args.shape.now c.in_default.not-Sequence (to_addition c.args.index) (λ i e. absurd (cc)) (λ e. absurd (cc)))

pub returns-in_default-additions-clause-found : goal.returns-in_default-additions-clause-found
returns-in_default-additions-clause-found c =
    let s = c.in-Sequence in
    let is = as_sequence c.args.shape.now s.root s.additions s.root.items s.is c.in_default-additions.is refl in
    no_such (type_of c.args.shape.now) (to_addition c.args.index) _ (ap (λ T. has_step T (to_addition c.args.index)) is)

pub returns-in_default-preamble-clause-found : goal.returns-in_default-preamble-clause-found
returns-in_default-preamble-clause-found c =
    let s = c.in-Sequence in
    let T = type_of c.args.shape.now in
    let fs = c.deref-fields.result.now in
    let xs = c.deref-additions.result.now in
    let is = as_extensible c.args.shape.now s.root s.additions c.in-Some.additions fs xs s.is c.in-Some.is c.deref-fields.ensures.value c.deref-additions.ensures.value in
    let many = ap (λ k. k + 1) c.optional.ensures.is ∙ add-one (optional (fields_of fs)) in
    absurd (not_got (check_value T (place_of c.args.cursor)) _ _ c.requires.checked (by_type T (extensible_sequence (fields_of fs) (additions_of xs)) _ _ is (extensible_stop (fields_of fs) (additions_of xs) (c.optional.result + 1) _ _ _ many c.in_default-preamble.ensures)))

pub returns-then-not-first-clause-found : goal.returns-then-not-first-clause-found
returns-then-not-first-clause-found c =
    let s = c.in-Sequence in
    let T = type_of c.args.shape.now in
    let fs = c.deref-fields.result.now in
    let xs = c.deref-additions.result.now in
    let is = as_extensible c.args.shape.now s.root s.additions c.in-Some.additions fs xs s.is c.in-Some.is c.deref-fields.ensures.value c.deref-additions.ensures.value in
    let many = ap (λ k. k + 1) c.optional.ensures.is ∙ add-one (optional (fields_of fs)) in
    no_extension_look T fs xs is (c.optional.result + 1) (place_of c.args.cursor) (place_of c.preamble.new.at) (bits_in c.in-Ok.bits) _ many c.requires.checked c.in-Ok.ensures refl c.args.index (sym c.first.ensures ∙ c.if-not-first.true)

pub returns-in_default-check_fields-clause-found : goal.returns-in_default-check_fields-clause-found
returns-in_default-check_fields-clause-found c =
    let s = c.in-Sequence in
    let T = type_of c.args.shape.now in
    let fs = c.deref-fields.result.now in
    let xs = c.deref-additions.result.now in
    let is = as_extensible c.args.shape.now s.root s.additions c.in-Some.additions fs xs s.is c.in-Some.is c.deref-fields.ensures.value c.deref-additions.ensures.value in
    let many = ap (λ k. k + 1) c.optional.ensures.is ∙ add-one (optional (fields_of fs)) in
    absurd (not_got _ _ _ (root_checked T fs xs is (c.optional.result + 1) (place_of c.args.cursor) (place_of c.preamble.new.at) (bits_in c.in-Ok.bits) (bits_in c.later.result) many c.requires.checked c.in-Ok.ensures c.later.ensures) c.in_default-check_fields.ensures)

pub returns-in_default-addition_map-clause-found : goal.returns-in_default-addition_map-clause-found
returns-in_default-addition_map-clause-found c =
    let s = c.in-Sequence in
    let T = type_of c.args.shape.now in
    let fs = c.deref-fields.result.now in
    let xs = c.deref-additions.result.now in
    let is = as_extensible c.args.shape.now s.root s.additions c.in-Some.additions fs xs s.is c.in-Some.is c.deref-fields.ensures.value c.deref-additions.ensures.value in
    let many = ap (λ k. k + 1) c.optional.ensures.is ∙ add-one (optional (fields_of fs)) in
    let ok = extension_checked T fs xs is (c.optional.result + 1) (place_of c.args.cursor) (place_of c.preamble.new.at) (bits_in c.in-Ok.bits) (bits_in c.later.result) many c.requires.checked c.in-Ok.ensures c.later.ensures (place_of c.check_fields.new.at) c.in-Ok-check_fields.field-0 c.in-Ok-check_fields.ensures in
    let set = sym c.first.ensures ∙ c.if-not-first.false in
    absurd (not_got _ _ _ ok (map_stop (additions_of xs) (length xs) (first_bit (bits_in c.in-Ok.bits)) (place_of c.check_fields.new.at) _ _ (sym set) (sym (count_is xs)) c.in_default-addition_map.ensures.bits))

pub addition_in-requires-clause-checked : goal.addition_in-requires-clause-checked
addition_in-requires-clause-checked c =
    let s = c.in-Sequence in
    let T = type_of c.args.shape.now in
    let fs = c.deref-fields.result.now in
    let xs = c.deref-additions.result.now in
    let is = as_extensible c.args.shape.now s.root s.additions c.in-Some.additions fs xs s.is c.in-Some.is c.deref-fields.ensures.value c.deref-additions.ensures.value in
    let many = ap (λ k. k + 1) c.optional.ensures.is ∙ add-one (optional (fields_of fs)) in
    let ok = extension_checked T fs xs is (c.optional.result + 1) (place_of c.args.cursor) (place_of c.preamble.new.at) (bits_in c.in-Ok.bits) (bits_in c.later.result) many c.requires.checked c.in-Ok.ensures c.later.ensures (place_of c.check_fields.new.at) c.in-Ok-check_fields.field-0 c.in-Ok-check_fields.ensures in
    let set = sym c.first.ensures ∙ c.if-not-first.false in
    marks_checked xs (first_bit (bits_in c.in-Ok.bits)) (place_of c.check_fields.new.at) (place_of c.addition_map.new.at) (bits_in c.in-Ok-addition_map.map.bits) c.in-Ok-addition_map.map.is_canonical set ok c.in-Ok-addition_map.ensures.bits

pub returns-clause-found : goal.returns-clause-found
returns-clause-found c =
    let s = c.in-Sequence in
    let T = type_of c.args.shape.now in
    let fs = c.deref-fields.result.now in
    let xs = c.deref-additions.result.now in
    let is = as_extensible c.args.shape.now s.root s.additions c.in-Some.additions fs xs s.is c.in-Some.is c.deref-fields.ensures.value c.deref-additions.ensures.value in
    let many = ap (λ k. k + 1) c.optional.ensures.is ∙ add-one (optional (fields_of fs)) in
    let look = extension_look T fs xs is (c.optional.result + 1) (place_of c.args.cursor) (place_of c.preamble.new.at) (bits_in c.in-Ok.bits) (bits_in c.later.result) many c.requires.checked c.in-Ok.ensures c.later.ensures (place_of c.check_fields.new.at) c.in-Ok-check_fields.field-0 c.in-Ok-check_fields.ensures in
    let set = sym c.first.ensures ∙ c.if-not-first.false in
    λ o. c.addition_in.ensures.found o
    ∙ marks_look xs (first_bit (bits_in c.in-Ok.bits)) (place_of c.check_fields.new.at) (place_of c.addition_map.new.at) (bits_in c.in-Ok-addition_map.map.bits) c.in-Ok-addition_map.map.is_canonical set c.in-Ok-addition_map.ensures.bits (to_addition c.args.index) o
    ∙ look c.args.index o

pub returns-clause-stands : goal.returns-clause-stands
returns-clause-stands c =
    let s = c.in-Sequence in
    let T = type_of c.args.shape.now in
    let fs = c.deref-fields.result.now in
    let xs = c.deref-additions.result.now in
    let is = as_extensible c.args.shape.now s.root s.additions c.in-Some.additions fs xs s.is c.in-Some.is c.deref-fields.ensures.value c.deref-additions.ensures.value in
    let many = ap (λ k. k + 1) c.optional.ensures.is ∙ add-one (optional (fields_of fs)) in
    let set = sym c.first.ensures ∙ c.if-not-first.false in
    let w = (subst KeepsLimits is c.requires.limits).0 in
    let d = (subst DefaultsFit is c.requires.defaults).0 in
    added_stands T fs xs is c.args.index (c.optional.result + 1) (length xs) (place_of c.args.cursor) (place_of c.preamble.new.at) (place_of c.check_fields.new.at) (place_of c.addition_map.new.at) (bits_in c.in-Ok.bits) (bits_in c.later.result) (bits_in c.in-Ok-addition_map.map.bits) c.in-Ok-check_fields.field-0 c.in-Ok-addition_map.map.is_canonical c.addition_in.result w d
    many c.in-Ok.ensures set c.later.ensures c.in-Ok-check_fields.ensures c.in-Ok-addition_map.ensures.bits c.addition_in.ensures.stands

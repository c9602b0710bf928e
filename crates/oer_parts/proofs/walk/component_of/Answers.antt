use Rattle.std.proofs.Common.{◌∙◌, ◌+◌, add-one, ap, refl, sym}
use Rattle.oer_model.specs.AsnType.{extensible_sequence, sequence}
use Rattle.oer_model.specs.Constraints.{optional}
use Rattle.oer_model.specs.Checking.{check_value}
use Rattle.oer_model.specs.Parts.{to_component}
use Rattle.oer_values.specs.ShapeView.{additions_of, fields_of, type_of}
use Rattle.oer_checker.specs.BitView.{bits_in}
use Rattle.oer_checker.specs.Places.{place_of}
use Rattle.oer_checker.proofs.FieldSteps.{extensible_stop, sequence_stop}
use Rattle.oer_parts.proofs.Inside.{closed_checked, closed_look, not_got, root_checked, root_ends, root_look}
use Rattle.oer_parts.proofs.Lasts.{closed_all, not_true, was_read}
use Rattle.oer_checker.proofs.PartSteps.{no_such}
use Rattle.oer_checker.proofs.ShapeCases.{not_sequence}
use Rattle.oer_checker.proofs.TypeSteps.{as_extensible, as_sequence, by_type}
use Rattle.oer_parts.proofs.Standing.{closed_stands, root_stands}
use Rattle.oer_parts.proofs.walk.component_of.Goals as goal

pub returns-in_default-clause-found : goal.returns-in_default-clause-found
returns-in_default-clause-found c = no_such (type_of c.args.shape.now) (to_component c.args.index) _ (not_sequence c.args.shape.now c.in_default.not-Sequence (to_component c.args.index) (λ i e. absurd (cc)) (λ e. absurd (cc)))

pub returns-in_default-preamble-clause-found : goal.returns-in_default-preamble-clause-found
returns-in_default-preamble-clause-found c =
    let s = c.in-Sequence in
    let fs = c.deref-fields.result.now in
    let is = as_sequence c.args.shape.now s.root s.additions fs s.is c.in-None.is c.deref-fields.ensures.value in
    absurd (not_got (check_value (type_of c.args.shape.now) (place_of c.args.cursor)) _ _ (was_read _ c.requires.checked) (by_type (type_of c.args.shape.now) (sequence (fields_of fs)) _ _ is (sequence_stop (fields_of fs) _ _ _ (rw c.optional-count.ensures.is at c.in_default-preamble.ensures))))

pub field_in-requires-clause-checked : goal.field_in-requires-clause-checked
field_in-requires-clause-checked c =
    let s = c.in-Sequence in
    let fs = c.deref-fields.result.now in
    let is = as_sequence c.args.shape.now s.root s.additions fs s.is c.in-None.is c.deref-fields.ensures.value in
    closed_checked (type_of c.args.shape.now) (fields_of fs) is (place_of c.args.cursor) _ _ (was_read _ c.requires.checked) (rw c.optional-count.ensures.is at c.in-Ok.ensures)

pub field_in-requires-clause-all : goal.field_in-requires-clause-all
field_in-requires-clause-all c always =
    let s = c.in-Sequence in
    let fs = c.deref-fields.result.now in
    let is = as_sequence c.args.shape.now s.root s.additions fs s.is c.in-None.is c.deref-fields.ensures.value in
    closed_all (type_of c.args.shape.now) (fields_of fs) is (place_of c.args.cursor) _ _ c.requires.checked (rw c.optional-count.ensures.is at c.in-Ok.ensures)

pub returns-in_default-preamble-2-clause-found : goal.returns-in_default-preamble-2-clause-found
returns-in_default-preamble-2-clause-found c =
    let s = c.in-Sequence in
    let fs = c.deref-fields.result.now in
    let more = c.in-Some.field-0 in
    let is = as_extensible c.args.shape.now s.root s.additions more fs more.items s.is c.in-Some.is c.deref-fields.ensures.value refl in
    absurd (not_got (check_value (type_of c.args.shape.now) (place_of c.args.cursor)) _ _ (was_read _ c.requires.checked) (by_type (type_of c.args.shape.now) (extensible_sequence (fields_of fs) (additions_of more.items)) _ _ is (extensible_stop (fields_of fs) (additions_of more.items) (c.optional-count-in-Some.result + 1) _ _ _ (ap (λ k. k + 1) c.optional-count-in-Some.ensures.is ∙ add-one (optional (fields_of fs))) c.in_default-preamble-2.ensures)))

pub field_in-requires-in-Some-clause-checked : goal.field_in-requires-in-Some-clause-checked
field_in-requires-in-Some-clause-checked c =
    let s = c.in-Sequence in
    let fs = c.deref-fields.result.now in
    let more = c.in-Some.field-0 in
    let is = as_extensible c.args.shape.now s.root s.additions more fs more.items s.is c.in-Some.is c.deref-fields.ensures.value refl in
    root_checked (type_of c.args.shape.now) fs more.items is (c.optional-count-in-Some.result + 1) (place_of c.args.cursor) (place_of c.preamble-in-Some.new.at) (bits_in c.in-Ok-preamble.bits) (bits_in c.later.result) (ap (λ k. k + 1) c.optional-count-in-Some.ensures.is ∙ add-one (optional (fields_of fs))) (was_read _ c.requires.checked) c.in-Ok-preamble.ensures c.later.ensures

pub field_in-requires-in-Some-clause-all : goal.field_in-requires-in-Some-clause-all
field_in-requires-in-Some-clause-all c none =
    let s = c.in-Sequence in
    let fs = c.deref-fields.result.now in
    let more = c.in-Some.field-0 in
    let is = as_extensible c.args.shape.now s.root s.additions more fs more.items s.is c.in-Some.is c.deref-fields.ensures.value refl in
    let unset = sym c.first.ensures ∙ not_true c.first.result none in
    root_ends (type_of c.args.shape.now) fs more.items is (c.optional-count-in-Some.result + 1) (place_of c.args.cursor) (place_of c.preamble-in-Some.new.at) (bits_in c.in-Ok-preamble.bits) (bits_in c.later.result) (ap (λ k. k + 1) c.optional-count-in-Some.ensures.is ∙ add-one (optional (fields_of fs))) (was_read _ c.requires.checked) c.in-Ok-preamble.ensures c.later.ensures unset

pub returns-in-Ok-clause-found : goal.returns-in-Ok-clause-found
returns-in-Ok-clause-found c =
    let s = c.in-Sequence in
    let fs = c.deref-fields.result.now in
    let is = as_sequence c.args.shape.now s.root s.additions fs s.is c.in-None.is c.deref-fields.ensures.value in
    λ o. c.field_in.ensures.found o ∙ closed_look (type_of c.args.shape.now) (fields_of fs) is (place_of c.args.cursor) _ _ (rw c.optional-count.ensures.is at c.in-Ok.ensures) (to_component c.args.index) o

pub returns-in-Ok-preamble-clause-found : goal.returns-in-Ok-preamble-clause-found
returns-in-Ok-preamble-clause-found c =
    let s = c.in-Sequence in
    let fs = c.deref-fields.result.now in
    let more = c.in-Some.field-0 in
    let is = as_extensible c.args.shape.now s.root s.additions more fs more.items s.is c.in-Some.is c.deref-fields.ensures.value refl in
    λ o. c.field_in-in-Some.ensures.found o ∙ root_look (type_of c.args.shape.now) fs more.items is (c.optional-count-in-Some.result + 1) (place_of c.args.cursor) (place_of c.preamble-in-Some.new.at) (bits_in c.in-Ok-preamble.bits) (bits_in c.later.result) (ap (λ k. k + 1) c.optional-count-in-Some.ensures.is ∙ add-one (optional (fields_of fs))) (was_read _ c.requires.checked) c.in-Ok-preamble.ensures c.later.ensures c.args.index o

pub returns-in-Ok-clause-stands : goal.returns-in-Ok-clause-stands
returns-in-Ok-clause-stands c =
    let s = c.in-Sequence in
    let fs = c.deref-fields.result.now in
    let is = as_sequence c.args.shape.now s.root s.additions fs s.is c.in-None.is c.deref-fields.ensures.value in
    closed_stands (type_of c.args.shape.now) (fields_of fs) is c.args.index (place_of c.args.cursor) (place_of c.preamble.new.at) (bits_in c.in-Ok.bits) c.field_in.result (rw c.optional-count.ensures.is at c.in-Ok.ensures) c.field_in.ensures.stands

pub returns-in-Ok-preamble-clause-stands : goal.returns-in-Ok-preamble-clause-stands
returns-in-Ok-preamble-clause-stands c =
    let s = c.in-Sequence in
    let fs = c.deref-fields.result.now in
    let more = c.in-Some.field-0 in
    let is = as_extensible c.args.shape.now s.root s.additions more fs more.items s.is c.in-Some.is c.deref-fields.ensures.value refl in
    let many = ap (λ k. k + 1) c.optional-count-in-Some.ensures.is ∙ add-one (optional (fields_of fs)) in
    root_stands (type_of c.args.shape.now) (fields_of fs) (additions_of more.items) is c.args.index (c.optional-count-in-Some.result + 1) (place_of c.args.cursor) (place_of c.preamble-in-Some.new.at) (bits_in c.in-Ok-preamble.bits) (bits_in c.later.result) c.field_in-in-Some.result many c.in-Ok-preamble.ensures c.later.ensures c.field_in-in-Some.ensures.stands

use Rattle.std.proofs.Common.{◌∙◌, ap, refl, sym, subst}
use Rattle.oer_model.specs.AsnType.{sequence_of}
use Rattle.oer_model.specs.Checking.{check_value}
use Rattle.oer_model.specs.Parts.{to_item}
use Rattle.oer_values.specs.ShapeView.{type_of}
use Rattle.oer_values.specs.declared.shape.Shape.{Shape}
use Rattle.oer_checker.specs.Places.{place_of}
use Rattle.oer_checker.proofs.FieldSteps.{items_stop}
use Rattle.oer_parts.proofs.Finds.{is_read, is_unread, item_found, item_missing, no_refusal, same_end}
use Rattle.oer_parts.proofs.Inside.{list_checked, list_look, not_got}
use Rattle.oer_parts.proofs.Lasts.{element_rest, was_read}
use Rattle.oer_checker.proofs.PartSteps.{no_such}
use Rattle.oer_checker.proofs.ShapeCases.{not_list}
use Rattle.oer_checker.proofs.TypeSteps.{as_items, by_type}
use Rattle.oer_parts.proofs.Walks.{item_entry}
use Rattle.oer_model.specs.Constraints.{KeepsLimits}
use Rattle.oer_model.specs.Fits.{DefaultsFit}
use Rattle.oer_parts.proofs.Standing.{item_stands}
use Rattle.oer_parts.proofs.walk.element_of.Goals as goal

pub returns-in_default-clause-found : goal.returns-in_default-clause-found
returns-in_default-clause-found c = no_such (type_of c.args.shape.now) (to_item c.args.index) _ (not_list c.args.shape.now c.in_default.not-SequenceOf c.args.index)

pub returns-in_default-sized_quantity_at-clause-found : goal.returns-in_default-sized_quantity_at-clause-found
returns-in_default-sized_quantity_at-clause-found c =
    let s = c.in-SequenceOf in
    let is = as_items c.args.shape.now s.size s.item s.is in
    absurd (not_got (check_value (type_of c.args.shape.now) (place_of c.args.cursor)) _ _ (was_read _ c.requires.checked) (by_type (type_of c.args.shape.now) (sequence_of s.size (type_of s.item.value)) _ _ is (items_stop s.size (type_of s.item.value) _ _ _ c.in_default-sized_quantity_at.ensures)))

pub returns-then-index-counted-clause-found : goal.returns-then-index-counted-clause-found
returns-then-index-counted-clause-found c =
    let s = c.in-SequenceOf in
    let T = type_of c.deref-item.result.now in
    let is = as_items c.args.shape.now s.size s.item s.is ∙ ap (λ (i : Shape). sequence_of s.size (type_of i)) (sym c.deref-item.ensures) in
    let e = list_checked (type_of c.args.shape.now) s.size T is (place_of c.args.cursor) (place_of c.sized_quantity_at.new.at) c.in-Ok.counted.count c.in-Ok.counted.is_least (was_read _ c.requires.checked) c.in-Ok.ensures in
    λ o. item_missing T c.in-Ok.counted.count c.args.index (place_of c.sized_quantity_at.new.at) e.1 e.0 e.2 c.if-index-counted.true o
    ∙ list_look (type_of c.args.shape.now) s.size T is (place_of c.args.cursor) (place_of c.sized_quantity_at.new.at) c.in-Ok.counted.count c.in-Ok.counted.is_least c.in-Ok.ensures (to_item c.args.index) o

pub returns-in_default-check_elements-clause-found : goal.returns-in_default-check_elements-clause-found
returns-in_default-check_elements-clause-found c =
    let s = c.in-SequenceOf in
    let T = type_of c.deref-item.result.now in
    let is = as_items c.args.shape.now s.size s.item s.is ∙ ap (λ (i : Shape). sequence_of s.size (type_of i)) (sym c.deref-item.ensures) in
    let e = list_checked (type_of c.args.shape.now) s.size T is (place_of c.args.cursor) (place_of c.sized_quantity_at.new.at) c.in-Ok.counted.count c.in-Ok.counted.is_least (was_read _ c.requires.checked) c.in-Ok.ensures in
    let f = item_found T c.in-Ok.counted.count c.args.index (place_of c.sized_quantity_at.new.at) e.1 e.0 e.2 c.if-index-counted.false in
    absurd (no_refusal _ f.0 _ _ f.1 c.in_default-check_elements.ensures)

pub encoding_at-requires-clause-last : goal.encoding_at-requires-clause-last
encoding_at-requires-clause-last c last =
    let s = c.in-SequenceOf in
    let T = type_of c.deref-item.result.now in
    let is = as_items c.args.shape.now s.size s.item s.is ∙ ap (λ (i : Shape). sequence_of s.size (type_of i)) (sym c.deref-item.ensures) in
    element_rest (type_of c.args.shape.now) s.size T is (place_of c.args.cursor) (place_of c.sized_quantity_at.new.at) (place_of c.check_elements.new.at) c.in-Ok.counted.count c.args.index c.in-Ok.counted.is_least _ c.requires.checked c.in-Ok.ensures c.in-Ok-check_elements.ensures last

pub returns-in_default-encoding_at-clause-found : goal.returns-in_default-encoding_at-clause-found
returns-in_default-encoding_at-clause-found c =
    let s = c.in-SequenceOf in
    let T = type_of c.deref-item.result.now in
    let is = as_items c.args.shape.now s.size s.item s.is ∙ ap (λ (i : Shape). sequence_of s.size (type_of i)) (sym c.deref-item.ensures) in
    let e = list_checked (type_of c.args.shape.now) s.size T is (place_of c.args.cursor) (place_of c.sized_quantity_at.new.at) c.in-Ok.counted.count c.in-Ok.counted.is_least (was_read _ c.requires.checked) c.in-Ok.ensures in
    let f = item_found T c.in-Ok.counted.count c.args.index (place_of c.sized_quantity_at.new.at) e.1 e.0 e.2 c.if-index-counted.false in
    let ends = same_end _ f.0 (place_of c.check_elements.new.at) _ f.1 c.in-Ok-check_elements.ensures in
    absurd (is_unread _ (item_entry T c.args.index) f.0 (place_of c.check_elements.new.at) _ refl f.2 ends c.in_default-encoding_at.ensures)

pub returns-clause-found : goal.returns-clause-found
returns-clause-found c =
    let s = c.in-SequenceOf in
    let T = type_of c.deref-item.result.now in
    let is = as_items c.args.shape.now s.size s.item s.is ∙ ap (λ (i : Shape). sequence_of s.size (type_of i)) (sym c.deref-item.ensures) in
    let e = list_checked (type_of c.args.shape.now) s.size T is (place_of c.args.cursor) (place_of c.sized_quantity_at.new.at) c.in-Ok.counted.count c.in-Ok.counted.is_least (was_read _ c.requires.checked) c.in-Ok.ensures in
    let f = item_found T c.in-Ok.counted.count c.args.index (place_of c.sized_quantity_at.new.at) e.1 e.0 e.2 c.if-index-counted.false in
    let ends = same_end _ f.0 (place_of c.check_elements.new.at) _ f.1 c.in-Ok-check_elements.ensures in
    λ o. is_read _ (item_entry T c.args.index) f.0 (place_of c.check_elements.new.at) _ _ refl f.2 ends c.in-Some.ensures o
    ∙ list_look (type_of c.args.shape.now) s.size T is (place_of c.args.cursor) (place_of c.sized_quantity_at.new.at) c.in-Ok.counted.count c.in-Ok.counted.is_least c.in-Ok.ensures (to_item c.args.index) o

pub returns-clause-stands : goal.returns-clause-stands
returns-clause-stands c =
    let s = c.in-SequenceOf in
    let T = type_of c.deref-item.result.now in
    let is = as_items c.args.shape.now s.size s.item s.is ∙ ap (λ (i : Shape). sequence_of s.size (type_of i)) (sym c.deref-item.ensures) in
    let w = (subst KeepsLimits is c.requires.limits).1 in
    let d = subst DefaultsFit is c.requires.defaults in
    item_stands (type_of c.args.shape.now) s.size T is w d c.args.index c.in-Ok.counted.count (place_of c.args.cursor) (place_of c.sized_quantity_at.new.at) (place_of c.check_elements.new.at) c.in-Ok.counted.is_least _ _ _ c.in-Ok.ensures c.in-Ok-check_elements.ensures c.in-Some.ensures refl

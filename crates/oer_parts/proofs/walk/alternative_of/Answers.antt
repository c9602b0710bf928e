use Rattle.std.proofs.Common.{◌∙◌, Some, None, false, refl, sym}
use Rattle.oer_units.specs.Reading.{counted_octets, open_type}
use Rattle.oer_model.specs.AsnType.{choice, no_alternatives}
use Rattle.oer_model.specs.Checking.{check_value}
use Rattle.oer_model.specs.Parts.{octets_of, to_chosen}
use Rattle.oer_values.specs.ShapeView.{root_of, type_of}
use Rattle.oer_checker.specs.Places.{place_of}
use Rattle.oer_parts.proofs.Inside.{not_got}
use Rattle.oer_parts.proofs.Lasts.{root_last, was_read}
use Rattle.oer_checker.proofs.PartSteps.{no_such}
use Rattle.oer_checker.proofs.ShapeCases.{not_choice}
use Rattle.oer_parts.proofs.TagParts.{alone_found, alone_missing, alone_piece, foreign_part, later_checked, later_part, root_part}
use Rattle.oer_checker.proofs.TagSteps.{choice_none, choice_stop, later_defaults, later_limits, root_defaults, root_limits}
use Rattle.oer_checker.proofs.TypeSteps.{as_choice, as_closed, as_open, by_type, choice_defaults, choice_limits, open_defaults, open_limits}
use Rattle.oer_parts.proofs.Standing.{content_counted, open_alternative_stands, root_alternative_stands}
use Rattle.oer_parts.proofs.walk.alternative_of.Goals as goal

pub returns-in_default-clause-found : goal.returns-in_default-clause-found
returns-in_default-clause-found c = no_such (type_of c.args.shape.now) to_chosen _ (not_choice c.args.shape.now c.in_default.not-Choice)

pub returns-in_default-tag_at-clause-found : goal.returns-in_default-tag_at-clause-found
returns-in_default-tag_at-clause-found c =
    let s = c.in-Choice in
    let T = type_of c.args.shape.now in
    let k = as_choice c.args.shape.now s.root s.additions s.root.items s.is refl in
    absurd (not_got (check_value T (place_of c.args.cursor)) _ _ (was_read _ c.requires.checked) (by_type T (choice k.extensible (root_of s.root.items k.after)) _ _ k.is (choice_stop k.extensible (root_of s.root.items k.after) _ _ _ c.in_default-tag_at.ensures)))

pub encoding_at-requires-clause-limits : goal.encoding_at-requires-clause-limits
encoding_at-requires-clause-limits c =
    let s = c.in-Choice in
    let xs = c.deref.result.now in
    let first = c.in-Some.ensures.first in
    root_limits xs first.0 c.in-Some.alternative.now first.1 first.2 (choice_limits c.args.shape.now s.root s.additions xs s.is c.deref.ensures.value c.requires.limits)

pub encoding_at-requires-clause-defaults : goal.encoding_at-requires-clause-defaults
encoding_at-requires-clause-defaults c =
    let s = c.in-Choice in
    let xs = c.deref.result.now in
    let first = c.in-Some.ensures.first in
    root_defaults xs first.0 c.in-Some.alternative.now first.1 first.2 (choice_defaults c.args.shape.now s.root s.additions xs s.is c.deref.ensures.value c.requires.defaults)

pub encoding_at-requires-clause-last : goal.encoding_at-requires-clause-last
encoding_at-requires-clause-last c always =
    let s = c.in-Choice in
    let T = type_of c.args.shape.now in
    let xs = c.deref.result.now in
    let k = as_choice c.args.shape.now s.root s.additions xs s.is c.deref.ensures.value in
    root_last T k.extensible xs k.after k.is (place_of c.args.cursor) (place_of c.tag_at.new.at) c.in-Ok.tag c.in-Some.alternative.now c.in-Ok.ensures c.in-Some.ensures.first c.requires.checked

pub returns-in_err-octets-clause-found : goal.returns-in_err-octets-clause-found
returns-in_err-octets-clause-found c =
    let s = c.in-Choice in
    let T = type_of c.args.shape.now in
    let xs = c.deref.result.now in
    let k = as_choice c.args.shape.now s.root s.additions xs s.is c.deref.ensures.value in
    let a = c.in-Some.alternative.now in
    rw c.from_residual.ensures (λ o. alone_missing (Some (type_of a.shape)) (octets_of (check_value (type_of a.shape))) (place_of c.tag_at.new.at) (rw c.in_err-octets.was at c.encoding_at.ensures) o ∙ root_part T k.extensible xs k.after k.is (place_of c.args.cursor) (place_of c.tag_at.new.at) c.in-Ok.tag c.in-Ok.ensures a c.in-Some.ensures.first o)

pub returns-in-Some-clause-found : goal.returns-in-Some-clause-found
returns-in-Some-clause-found c =
    let s = c.in-Choice in
    let T = type_of c.args.shape.now in
    let xs = c.deref.result.now in
    let k = as_choice c.args.shape.now s.root s.additions xs s.is c.deref.ensures.value in
    let a = c.in-Some.alternative.now in
    λ o. alone_found (Some (type_of a.shape)) (octets_of (check_value (type_of a.shape))) (place_of c.tag_at.new.at) _ c.in_ok-octets.ensures o ∙ root_part T k.extensible xs k.after k.is (place_of c.args.cursor) (place_of c.tag_at.new.at) c.in-Ok.tag c.in-Ok.ensures a c.in-Some.ensures.first o

pub returns-in_default-additions-clause-found : goal.returns-in_default-additions-clause-found
returns-in_default-additions-clause-found c =
    let s = c.in-Choice in
    let T = type_of c.args.shape.now in
    let xs = c.deref.result.now in
    let is = as_closed c.args.shape.now s.root s.additions xs s.is c.in_default-additions.is c.deref.ensures.value in
    absurd (not_got (check_value T (place_of c.args.cursor)) _ _ (was_read _ c.requires.checked) (by_type T (choice false (root_of xs no_alternatives)) _ _ is (choice_none xs _ _ c.in-Ok.tag c.in-Ok.ensures (sym c.in_default-with_tag.ensures.first))))

pub returns-in-Some-with_tag-clause-found : goal.returns-in-Some-with_tag-clause-found
returns-in-Some-with_tag-clause-found c =
    let s = c.in-Choice in
    let T = type_of c.args.shape.now in
    let xs = c.deref.result.now in
    let ys = c.deref-2.result.now in
    let is = as_open c.args.shape.now s.root s.additions c.in-Some-additions.additions xs ys s.is c.in-Some-additions.is c.deref.ensures.value c.deref-2.ensures.value in
    let a = c.in-Some-with_tag.alternative.now in
    let U = type_of a.shape in
    let p = place_of c.args.cursor in
    let q = place_of c.tag_at.new.at in
    let none = c.in_default-with_tag.ensures.first in
    let first = c.in-Some-with_tag.ensures.first in
    let w = later_limits ys first.0 a first.1 first.2 (open_limits c.args.shape.now s.root s.additions c.in-Some-additions.additions ys s.is c.in-Some-additions.is c.deref-2.ensures.value c.requires.limits) in
    let d = later_defaults ys first.0 a first.1 first.2 (open_defaults c.args.shape.now s.root s.additions c.in-Some-additions.additions ys s.is c.in-Some-additions.is c.deref-2.ensures.value c.requires.defaults) in
    let content = content_counted U w d q (later_checked T xs ys is p q c.in-Ok.tag a c.in-Ok.ensures none c.in-Some-with_tag.ensures.is (was_read _ c.requires.checked)) in
    λ o. alone_piece c.content_at.result (Some U) (open_type (octets_of (check_value U))) q (c.content_at.ensures.read ∙ content) c.content_at.ensures.kind o ∙ later_part T _ xs ys is p q c.in-Ok.tag c.in-Ok.ensures none a first o

pub returns-in-None-clause-found : goal.returns-in-None-clause-found
returns-in-None-clause-found c =
    let s = c.in-Choice in
    let T = type_of c.args.shape.now in
    let xs = c.deref.result.now in
    let ys = c.deref-2.result.now in
    let is = as_open c.args.shape.now s.root s.additions c.in-Some-additions.additions xs ys s.is c.in-Some-additions.is c.deref.ensures.value c.deref-2.ensures.value in
    let piece = c.content_at-in-None in
    λ o. alone_piece piece.result None counted_octets (place_of c.tag_at.new.at) piece.ensures.read piece.ensures.kind o ∙ foreign_part T _ xs ys is (place_of c.args.cursor) (place_of c.tag_at.new.at) c.in-Ok.tag c.in-Ok.ensures c.in_default-with_tag.ensures.first c.in-None.ensures.first o

pub returns-in-Some-clause-stands : goal.returns-in-Some-clause-stands
returns-in-Some-clause-stands c =
    let s = c.in-Choice in
    let T = type_of c.args.shape.now in
    let xs = c.deref.result.now in
    let k = as_choice c.args.shape.now s.root s.additions xs s.is c.deref.ensures.value in
    let a = c.in-Some.alternative.now in
    let (i, less, at, same, before) = c.in-Some.ensures.first in
    let w = root_limits xs i a less at (choice_limits c.args.shape.now s.root s.additions xs s.is c.deref.ensures.value c.requires.limits) in
    let d = root_defaults xs i a less at (choice_defaults c.args.shape.now s.root s.additions xs s.is c.deref.ensures.value c.requires.defaults) in
    root_alternative_stands T k.extensible xs k.after k.is (place_of c.args.cursor) (place_of c.tag_at.new.at) c.in-Ok.tag a _ _ i w d c.in-Ok.ensures less at same before c.in_ok-octets.ensures refl

pub returns-in-Some-with_tag-clause-stands : goal.returns-in-Some-with_tag-clause-stands
returns-in-Some-with_tag-clause-stands c =
    let s = c.in-Choice in
    let xs = c.deref.result.now in
    let ys = c.deref-2.result.now in
    let is = as_open c.args.shape.now s.root s.additions c.in-Some-additions.additions xs ys s.is c.in-Some-additions.is c.deref.ensures.value c.deref-2.ensures.value in
    open_alternative_stands (type_of c.args.shape.now) xs ys is (place_of c.args.cursor) (place_of c.tag_at.new.at) c.in-Ok.tag c.content_at.result c.in-Ok.ensures c.in_default-with_tag.ensures.first c.content_at.ensures.stands

pub returns-in-None-clause-stands : goal.returns-in-None-clause-stands
returns-in-None-clause-stands c =
    let s = c.in-Choice in
    let xs = c.deref.result.now in
    let ys = c.deref-2.result.now in
    let is = as_open c.args.shape.now s.root s.additions c.in-Some-additions.additions xs ys s.is c.in-Some-additions.is c.deref.ensures.value c.deref-2.ensures.value in
    open_alternative_stands (type_of c.args.shape.now) xs ys is (place_of c.args.cursor) (place_of c.tag_at.new.at) c.in-Ok.tag c.content_at-in-None.result c.in-Ok.ensures c.in_default-with_tag.ensures.first c.content_at-in-None.ensures.stands

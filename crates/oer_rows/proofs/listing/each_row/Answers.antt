use Rattle.std.proofs.Common.{List, [], length, ap, ap₂, refl, subst}
use Rattle.std.specs.List.{FoldsTo}
use Rattle.oer_units.specs.Reader.{at}
use Rattle.oer_model.specs.Constraints.{KeepsLimits}
use Rattle.oer_model.specs.Fits.{DefaultsFit}
use Rattle.oer_types.specs.Schema.{the_type}
use Rattle.oer_values.specs.ShapeView.{type_of}
use Rattle.oer_values.specs.declared.shape.Shape.{Shape}
use Rattle.oer_checker.specs.Check.{most}
use Rattle.oer_parts.specs.Walk.{path_of}
use Rattle.oer_parts.specs.declared.step.Step.{Step}
use Rattle.oer_rows.specs.Listing.{lines_in}
use Rattle.oer_rows.specs.Rows.{Line, walk_value}
use Rattle.oer_rows.proofs.ListingSteps.{halted_lines, listing_covers, listing_listed, went_lines}
use Rattle.oer_rows.proofs.listing.each_row.Goals as goal

pub returns-in-Ok-clause-listed : goal.returns-in-Ok-clause-listed
returns-in-Ok-clause-listed g c =
    let U = the_type c.args.schema.now in
    let input = c.args.octets.now in
    let same = ap type_of c.shape.ensures.same in
    let limits : KeepsLimits U = subst KeepsLimits same c.shape.ensures.limits in
    let fit : DefaultsFit U = subst DefaultsFit same c.shape.ensures.defaults in
    listing_listed U limits fit input c.check-verdict.result _ c.check-verdict.ensures.exact c.check-verdict.ensures.told refl

pub returns-in-Ok-clause-covers : goal.returns-in-Ok-clause-covers
returns-in-Ok-clause-covers g c =
    let U = the_type c.args.schema.now in
    let input = c.args.octets.now in
    let same = ap type_of c.shape.ensures.same in
    let limits : KeepsLimits U = subst KeepsLimits same c.shape.ensures.limits in
    let fit : DefaultsFit U = subst DefaultsFit same c.shape.ensures.defaults in
    listing_covers U limits fit input c.check-verdict.result _ c.check-verdict.ensures.exact refl

pub returns-in-Err-Refused-clause-listed : goal.returns-in-Err-Refused-clause-listed
returns-in-Err-Refused-clause-listed g c =
    let U = the_type c.args.schema.now in
    let input = c.args.octets.now in
    let same = ap type_of c.shape.ensures.same in
    let limits : KeepsLimits U = subst KeepsLimits same c.shape.ensures.limits in
    let fit : DefaultsFit U = subst DefaultsFit same c.shape.ensures.defaults in
    listing_listed U limits fit input c.check-verdict.result _ c.check-verdict.ensures.exact c.check-verdict.ensures.told refl

pub returns-in-Err-Refused-clause-covers : goal.returns-in-Err-Refused-clause-covers
returns-in-Err-Refused-clause-covers g c =
    let U = the_type c.args.schema.now in
    let input = c.args.octets.now in
    let same = ap type_of c.shape.ensures.same in
    let limits : KeepsLimits U = subst KeepsLimits same c.shape.ensures.limits in
    let fit : DefaultsFit U = subst DefaultsFit same c.shape.ensures.defaults in
    listing_covers U limits fit input c.check-verdict.result _ c.check-verdict.ensures.exact refl

pub returns-in-Ok-clause-rows : goal.returns-in-Ok-clause-rows
returns-in-Ok-clause-rows g c =
    let is = ap₂ (λ (s : Shape) (path : List Step). lines_in (walk_value (type_of s) (length c.args.octets.now) (path_of path) [] (at c.args.octets.now most)))
    c.shape.ensures.same c.new.ensures.items in
    subst (λ (l : List Line). FoldsTo g.T.TakeRow.takes c.args.taker.now l c.list_shape.new.taker) is
    (went_lines g.T.TakeRow.takes c.in-Ok.field-0 _ _ _ _ c.in-Ok.ensures)

pub returns-in-Err-Refused-clause-rows : goal.returns-in-Err-Refused-clause-rows
returns-in-Err-Refused-clause-rows g c =
    let is = ap₂ (λ (s : Shape) (path : List Step). lines_in (walk_value (type_of s) (length c.args.octets.now) (path_of path) [] (at c.args.octets.now most)))
    c.shape.ensures.same c.new.ensures.items in
    subst (λ (l : List Line). FoldsTo g.T.TakeRow.takes c.args.taker.now l c.list_shape.new.taker) is
    (halted_lines g.T.TakeRow.takes _ _ _ _ (rw c.in-Err-Refused.field-0-is at c.in-Err-Refused.ensures))

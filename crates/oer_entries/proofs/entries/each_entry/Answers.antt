use Rattle.std.proofs.Common.{◌∙◌, ap, subst, []}
use Rattle.oer_types.specs.Schema.{the_type}
use Rattle.oer_values.specs.ShapeView.{type_of}
use Rattle.oer_rows.specs.Listing.{rows_of}
use Rattle.oer_entries.specs.declared.entries.Making.{Making}
use Rattle.oer_entries.specs.Makes.{Stands}
use Rattle.oer_entries.proofs.Again.{kept_all}
use Rattle.oer_entries.proofs.Spots.{refused_is}
use Rattle.oer_entries.proofs.Tags.{start_stands}
use Rattle.oer_entries.proofs.Taken.{all_placed, placed_taken, rows_lead}
use Rattle.oer_entries.proofs.entries.each_entry.Goals as goal

pub returns-clause-placed : goal.returns-clause-placed
returns-clause-placed g c =
    let T = the_type c.args.schema.now in
    let octets = c.args.octets.now in
    let rows = rows_of T octets in
    let way = c.in_ok-whole.field-0 in
    let start : Stands T octets [] [] way =
    subst (λ U. Stands U octets [] [] way) (ap type_of c.shape.ensures.same) (start_stands _ octets way c.in_ok-whole.ensures.way c.in_ok-whole.ensures.parts c.in_ok-whole.ensures.octets) in
    all_placed g.E.TakeEntry.takes (λ (m : Making _). m.taker) (λ (m : Making _). m.way) T octets rows _ c.each_row.new.taker _ c.in_ok-verdict.ensures.rows start
    (kept_all octets _ rows c.in_ok-verdict.ensures.covers) c.in_ok-place.ensures.taken

pub returns-clause-place : goal.returns-clause-place
returns-clause-place g c =
    let T = the_type c.args.schema.now in
    let octets = c.args.octets.now in
    let rows = rows_of T octets in
    let way = c.in_ok-whole.field-0 in
    let start : Stands T octets [] [] way =
    subst (λ U. Stands U octets [] [] way) (ap type_of c.shape.ensures.same) (start_stands _ octets way c.in_ok-whole.ensures.way c.in_ok-whole.ensures.parts c.in_ok-whole.ensures.octets) in
    c.in_ok-place.ensures.place T (rows_lead g.E.TakeEntry.takes (λ (m : Making _). m.taker) (λ (m : Making _). m.way) T octets [] rows _ c.each_row.new.taker
    c.in_ok-verdict.ensures.rows start (kept_all octets _ rows c.in_ok-verdict.ensures.covers))

pub returns-clause-rejected : goal.returns-clause-rejected
returns-clause-rejected g c =
    c.in_ok-place.ensures.rejected ∙ refused_is (the_type c.args.schema.now) c.args.octets.now _ c.in_ok-verdict.ensures.exact

pub returns-clause-taken : goal.returns-clause-taken
returns-clause-taken g c = placed_taken g.E.TakeEntry.takes (the_type c.args.schema.now) _ _ _ (returns-clause-placed g c)

use Rattle.std.proofs.Common.{◌≡◌, List, refl, subst, sym}
use Rattle.oer_types.specs.Schema.{the_type}
use Rattle.oer_rows.specs.Listing.{AreListed, Covers, rows_of}
use Rattle.oer_rows.specs.Rows.{Line, lines_of}
use Rattle.oer_rows.proofs.ListingSteps.{kept_rows}
use Rattle.oer_rows.proofs.listing.rows.Goals as goal

pub returns-clause-rows : goal.returns-clause-rows
returns-clause-rows c =
    kept_rows (rows_of (the_type c.args.schema.now) c.args.octets.now) c.args.octets.now c.in-Ok.verdict _ _ c.new.ensures.items refl
    c.in-Ok.ensures.rows c.in-Ok.ensures.covers

pub returns-clause-listed : goal.returns-clause-listed
returns-clause-listed c =
    let is : lines_of c.each_row.new.taker.rows.items ≡ rows_of (the_type c.args.schema.now) c.args.octets.now =
    kept_rows (rows_of (the_type c.args.schema.now) c.args.octets.now) c.args.octets.now c.in-Ok.verdict _ _ c.new.ensures.items refl
    c.in-Ok.ensures.rows c.in-Ok.ensures.covers in
    subst (λ (l : List Line). AreListed (the_type c.args.schema.now) c.args.octets.now l c.in-Ok.verdict) (sym is) c.in-Ok.ensures.listed

pub returns-clause-covers : goal.returns-clause-covers
returns-clause-covers c =
    let is : lines_of c.each_row.new.taker.rows.items ≡ rows_of (the_type c.args.schema.now) c.args.octets.now =
    kept_rows (rows_of (the_type c.args.schema.now) c.args.octets.now) c.args.octets.now c.in-Ok.verdict _ _ c.new.ensures.items refl
    c.in-Ok.ensures.rows c.in-Ok.ensures.covers in
    subst (λ (l : List Line). Covers c.args.octets.now l c.in-Ok.verdict) (sym is) c.in-Ok.ensures.covers

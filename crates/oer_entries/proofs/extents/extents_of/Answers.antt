use Rattle.std.proofs.Common.{ap, subst, [], Ok, Err}
use Rattle.oer_types.specs.Schema.{the_type}
use Rattle.oer_values.specs.ShapeView.{type_of}
use Rattle.oer_checker.specs.Check.{Tells}
use Rattle.oer_entries.specs.Extents.{WithOneMore}
use Rattle.oer_entries.specs.Makes.{Stands}
use Rattle.oer_entries.specs.declared.extents.Measuring.{Measuring}
use Rattle.oer_entries.proofs.Reached.{all_measured, followed}
use Rattle.oer_entries.proofs.Tags.{start_stands}
use Rattle.oer_entries.proofs.extents.extents_of.Goals as goal

pub returns-in-Ok : goal.returns-in-Ok
returns-in-Ok c =
    let T = the_type c.args.schema.now in
    let octets = c.args.octets.now in
    let way = c.in_ok-whole.field-0 in
    let start : Stands T octets [] [] way =
    subst (λ U. Stands U octets [] [] way) (ap type_of c.shape.ensures.same) (start_stands _ octets way c.in_ok-whole.ensures.way c.in_ok-whole.ensures.parts c.in_ok-whole.ensures.octets) in
    let x = all_measured (λ (m : Measuring). m.way) (λ (m : Measuring). m.extents) T octets _ _ c.each_row.new.taker c.in_ok-verdict.ensures.rows start c.in_ok-verdict.ensures.covers
    c.none.ensures in
    (Ok c.in-Ok.verdict, subst (Tells T octets) c.in-Ok.is c.in_ok-verdict.ensures.told, followed octets _ c.in-Ok.verdict.octets _ _ _ x.1 x.0 c.followed.ensures)

pub returns : goal.returns
returns c =
    let T = the_type c.args.schema.now in
    let octets = c.args.octets.now in
    let way = c.in_ok-whole.field-0 in
    let start : Stands T octets [] [] way =
    subst (λ U. Stands U octets [] [] way) (ap type_of c.shape.ensures.same) (start_stands _ octets way c.in_ok-whole.ensures.way c.in_ok-whole.ensures.parts c.in_ok-whole.ensures.octets) in
    let x = all_measured (λ (m : Measuring). m.way) (λ (m : Measuring). m.extents) T octets _ _ c.each_row.new.taker c.in_ok-verdict.ensures.rows start c.in_ok-verdict.ensures.covers
    c.none.ensures in (
      Err c.in-Err.fault,
      subst (Tells T octets) c.in-Err.is c.in_ok-verdict.ensures.told,
      subst (λ e. WithOneMore e c.in_ok-rejected-in-Err.field-0) x.0 c.in_ok-rejected-in-Err.ensures,
    )

use Rattle.std.proofs.Common.{arith}
use Rattle.oer_checker.proofs.Exits.{at_stop}
use Rattle.oer_checker.proofs.ShortUnits.{got_tag, tag_cut}
use Rattle.oer_checker.proofs.units.tag_at.Goals as goal

pub returns-in_err-first : goal.returns-in_err-first
returns-in_err-first c = rw (at_stop c.from_residual.result c.in_err-first.field-0.0 c.from_residual.ensures.1) (tag_cut _ _ _ c.in_err-first.ensures)

pub returns : goal.returns
returns c =
    let octet = c.short_tag.ensures.octet in
    got_tag _ _ c.in_ok-first.first c.short_tag.result c.in_ok-first.ensures (omega arith) (omega arith) c.short_tag.ensures.class c.short_tag.ensures.number

use Rattle.std.proofs.Common.{arith, Ok, Err}
use Rattle.std.proofs.lemmas.Grind.{common_steps}
use Rattle.oer_units.proofs.ReadExits.{at_exit}
use Rattle.oer_units.proofs.ReadFixed.{unsigned_read, width_few}
use Rattle.oer_units.proofs.reading.unsigned_fixed.Goals as goal

pub returns-in_err-octets_into-clause-reads : goal.returns-in_err-octets_into-clause-reads
returns-in_err-octets_into-clause-reads g c =
    let few = width_few c.args.width in
    let is = c.octets.ensures in
    rw (at_exit c.from_residual.result c.in_err-octets_into.field-0.0 c.from_residual.ensures.1)
    (unsigned_read {B = Unit {0}} c.args.width _ _ _ c.octets_into.new.into (Err c.in_err-octets_into.field-0.0) (grind (arith, common_steps)) c.in_err-octets_into.ensures.reads)

pub returns-clause-reads : goal.returns-clause-reads
returns-clause-reads g c =
    let few = width_few c.args.width in
    let is = c.octets.ensures in
    rw (c.unsigned_of.ensures)
    (unsigned_read {B = Unit {0}} c.args.width _ _ _ c.octets_into.new.into (Ok c.in_ok-octets_into.field-0) (grind (arith, common_steps)) c.in_ok-octets_into.ensures.reads)

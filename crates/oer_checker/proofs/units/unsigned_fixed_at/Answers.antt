use Rattle.std.proofs.Common.{arith}
use Rattle.oer_checker.proofs.StringSteps.{group_size}
use Rattle.oer_checker.proofs.Exits.{at_stop}
use Rattle.oer_units.proofs.ReadFixed.{width_few}
use Rattle.oer_checker.proofs.UnitSteps.{fixed_got, fixed_stop}
use Rattle.oer_checker.proofs.units.unsigned_fixed_at.Goals as goal

pub unsigned_of-requires : goal.unsigned_of-requires
unsigned_of-requires c =
    let few = width_few c.args.width in
    let size = group_size c.octets.result _ _ _ c.in_ok-octets.ensures in
    let is = c.octets.ensures in
    omega arith

pub returns-in_err-octets : goal.returns-in_err-octets
returns-in_err-octets c = rw (at_stop c.from_residual.result c.in_err-octets.field-0.0 c.from_residual.ensures.1) (fixed_stop c.args.width c.octets.result _ _ _ c.octets.ensures c.in_err-octets.ensures)

pub returns : goal.returns
returns c = rw c.unsigned_of.ensures (fixed_got c.args.width c.octets.result _ _ _ c.octets.ensures c.in_ok-octets.ensures)

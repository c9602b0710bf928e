use Rattle.std.proofs.Common.{arith}
use Rattle.std.specs.Int.{w64}
use Rattle.std.proofs.lemmas.Int.{to_z-of_z}
use Rattle.oer_units.proofs.ReadFixed.{width_few, width_some}
use Rattle.oer_checker.proofs.StringSteps.{group_size}
use Rattle.oer_checker.proofs.Exits.{at_stop}
use Rattle.oer_checker.proofs.UnitSteps.{signed_got, signed_stop}
use Rattle.oer_checker.proofs.units.signed_fixed_at.Goals as goal

pub signed_of-requires : goal.signed_of-requires
signed_of-requires c =
    let few = width_few c.args.width in
    let some = width_some c.args.width in
    let size = group_size c.octets.result _ _ _ c.in_ok-octets.ensures in
    let is = c.octets.ensures in
    record { some = omega arith; few = omega arith }

pub returns-in_err-octets-clause-number : goal.returns-in_err-octets-clause-number
returns-in_err-octets-clause-number c = rw (at_stop c.from_residual.result c.in_err-octets.field-0.0 c.from_residual.ensures.1) (signed_stop c.args.width c.octets.result _ _ _ c.octets.ensures c.in_err-octets.ensures)

pub returns-clause-number : goal.returns-clause-number
returns-clause-number c = rw (to_z-of_z w64 c.signed_of.result (record { sfits = c.signed_of.type_inv }), c.signed_of.ensures) (signed_got c.args.width c.octets.result _ _ _ c.octets.ensures c.in_ok-octets.ensures)

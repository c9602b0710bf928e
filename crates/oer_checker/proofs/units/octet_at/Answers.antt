use Rattle.std.proofs.Common.{refl, arith}
use Rattle.oer_checker.proofs.StringSteps.{group_size}
use Rattle.oer_checker.proofs.Exits.{at_stop}
use Rattle.oer_checker.proofs.ShortUnits.{octet_got, octet_stop}
use Rattle.oer_checker.proofs.units.octet_at.Goals as goal

pub returns-in_err-octets : goal.returns-in_err-octets
returns-in_err-octets c = rw (at_stop c.from_residual.result c.in_err-octets.field-0.0 c.from_residual.ensures.1) (octet_stop _ _ _ c.in_err-octets.ensures)

pub returns : goal.returns
returns c = octet_got _ _ _ _ c.in_ok-octets.ensures refl

pub bounds-octets-0 : goal.bounds-octets-0
bounds-octets-0 c = let size = group_size 1 _ _ _ c.in_ok-octets.ensures in omega arith

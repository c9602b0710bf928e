use Rattle.std.specs.Int.{w128}
use Rattle.std.proofs.lemmas.Int.{to_z_pos}
use Rattle.oer_checker.proofs.StringSteps.{group_size}
use Rattle.std.proofs.Common.{arith}
use Rattle.oer_checker.proofs.Exits.{at_stop}
use Rattle.oer_checker.proofs.ShortUnits.{natural_cut, natural_got, natural_stop}
use Rattle.oer_checker.proofs.units.natural_at.Goals as goal

pub returns-in_err-count-clause-number : goal.returns-in_err-count-clause-number
returns-in_err-count-clause-number c = rw (at_stop c.from_residual.result c.in_err-count.field-0.0 c.from_residual.ensures.1) (natural_stop _ _ _ c.in_err-count.ensures)

pub returns-in_err-octets-clause-number : goal.returns-in_err-octets-clause-number
returns-in_err-octets-clause-number c = rw (at_stop c.from_residual-in_err-octets.result c.in_err-octets.field-0.0 c.from_residual-in_err-octets.ensures.1) (natural_cut _ _ c.in_ok-count.count _ _ c.in_ok-count.ensures c.if-count-eq0.false c.in_err-octets.ensures)

pub unsigned_of-requires : goal.unsigned_of-requires
unsigned_of-requires c = let size = group_size c.in_ok-count.count _ _ _ c.in_ok-octets.ensures in omega arith

pub returns-clause-number : goal.returns-clause-number
returns-clause-number c = rw (to_z_pos w128 c.unsigned_of.result (omega arith)) (natural_got _ _ _ c.in_ok-count.count _ c.unsigned_of.result c.in_ok-count.ensures c.if-count-eq0.false c.unsigned_of.ensures (omega arith) c.in_ok-octets.ensures)

use Rattle.std.specs.Int.{w64}
use Rattle.std.proofs.lemmas.Int.{to_z_pos}
use Rattle.std.proofs.Common.{arith}
use Rattle.oer_checker.proofs.Exits.{at_stop}
use Rattle.oer_checker.proofs.ShortUnits.{enumerated_cut, enumerated_short}
use Rattle.oer_checker.proofs.units.enumerated_at.Goals as goal

pub returns-in_err-first-clause-number : goal.returns-in_err-first-clause-number
returns-in_err-first-clause-number c = rw (at_stop c.from_residual.result c.in_err-first.field-0.0 c.from_residual.ensures.1) (enumerated_cut _ _ _ c.in_err-first.ensures)

pub returns-clause-number : goal.returns-clause-number
returns-clause-number c = rw (to_z_pos w64 c.in_ok-first.first (omega arith)) (enumerated_short _ _ c.in_ok-first.first c.in_ok-first.ensures c.if-first-ge128.false)

use Rattle.std.proofs.Common.{arith}
use Rattle.oer_checker.proofs.Exits.{at_stop}
use Rattle.oer_checker.proofs.ShortUnits.{length_cut, length_past, length_short}
use Rattle.oer_checker.proofs.units.length_at.Goals as goal

pub returns-in_err-first : goal.returns-in_err-first
returns-in_err-first c = rw (at_stop c.from_residual.result c.in_err-first.field-0.0 c.from_residual.ensures.1) (length_cut _ _ _ c.in_err-first.ensures)

pub returns-then-count-at : goal.returns-then-count-at
returns-then-count-at c = length_past _ _ c.in_ok-first.first c.in_ok-first.ensures (omega arith) (omega arith)

pub returns : goal.returns
returns c = length_short _ _ c.in_ok-first.first c.in_ok-first.ensures (omega arith) (omega arith)

use Rattle.oer_checker.proofs.Exits.{at_stop}
use Rattle.oer_checker.proofs.LengthSteps.{octets_cut, octets_got, octets_stop}
use Rattle.oer_checker.proofs.lengths.check_octets.Goals as goal

pub returns-in_err-counted : goal.returns-in_err-counted
returns-in_err-counted c = rw (at_stop c.from_residual.result c.in_err-counted.field-0.0 c.from_residual.ensures.1) (octets_stop _ _ _ c.in_err-counted.ensures)

pub returns-in_err-group_at : goal.returns-in_err-group_at
returns-in_err-group_at c = rw (at_stop c.from_residual-in_err-group_at.result c.in_err-group_at.field-0.0 c.from_residual-in_err-group_at.ensures.1) (octets_cut _ _ c.in_ok-counted.counted.count c.in_ok-counted.counted.is_least _ _ c.in_ok-counted.ensures c.in_err-group_at.ensures)

pub returns : goal.returns
returns c = octets_got _ _ _ c.in_ok-counted.counted.count c.in_ok-counted.counted.is_least _ c.in_ok-counted.ensures c.in_ok-group_at.ensures

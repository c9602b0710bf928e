use Rattle.oer_checker.proofs.Exits.{at_stop}
use Rattle.oer_checker.proofs.StringSteps.{counted_cut, counted_got, counted_stop}
use Rattle.oer_checker.proofs.strings.counted_at.Goals as goal

pub returns-in_err-count : goal.returns-in_err-count
returns-in_err-count c = rw (at_stop c.from_residual.result c.in_err-count.field-0.0 c.from_residual.ensures.1) (counted_stop _ _ _ c.in_err-count.ensures)

pub returns-in_err-octets : goal.returns-in_err-octets
returns-in_err-octets c = rw (at_stop c.from_residual-in_err-octets.result c.in_err-octets.field-0.0 c.from_residual-in_err-octets.ensures.1) (counted_cut _ _ c.in_ok-count.count _ _ c.in_ok-count.ensures c.in_err-octets.ensures)

pub returns : goal.returns
returns c = counted_got _ _ _ c.in_ok-count.count c.in_ok-octets.octets.now _ c.in_ok-count.ensures c.in_ok-octets.ensures c.is_counted-is_least.ensures

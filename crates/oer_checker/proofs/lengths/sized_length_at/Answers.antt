use Rattle.oer_checker.proofs.Exits.{at_stop}
use Rattle.oer_checker.proofs.LengthSteps.{sized_length_got, sized_length_stop}
use Rattle.oer_checker.proofs.lengths.sized_length_at.Goals as goal

pub returns-in_err-count : goal.returns-in_err-count
returns-in_err-count c = rw (at_stop c.from_residual.result c.in_err-count.field-0.0 c.from_residual.ensures.1) (sized_length_stop _ _ _ c.in_err-count.ensures)

pub returns : goal.returns
returns c = rw (c.is_of_length-is_least.ensures, c.length_len.ensures) (sized_length_got _ _ c.in_ok-count.count c.in_ok-count.ensures)

use Rattle.oer_decoder.proofs.Values.{value_of-Bool}
use Rattle.oer_decoder.proofs.Exits.{at_stop}
use Rattle.oer_decoder.proofs.numbers.read_boolean.Goals as goal

pub returns-in_err-is_true-clause-reads : goal.returns-in_err-is_true-clause-reads
returns-in_err-is_true-clause-reads g c = rw (at_stop c.from_residual.result c.in_err-is_true.field-0.0 c.from_residual.ensures.1) c.in_err-is_true.ensures.reads

pub returns-clause-reads : goal.returns-clause-reads
returns-clause-reads g c = rw (c.set.ensures, value_of-Bool) c.in_ok-is_true.ensures.reads

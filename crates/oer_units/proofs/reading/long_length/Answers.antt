use Rattle.std.proofs.Common.{arith}
use Rattle.oer_units.proofs.ReadExits.{at_exit}
use Rattle.oer_units.proofs.ReadLengths.{long_length_then, long_length_stop}
use Rattle.oer_units.proofs.reading.long_length.Goals as goal

pub returns-in_err-length-clause-reads : goal.returns-in_err-length-clause-reads
returns-in_err-length-clause-reads g c = rw (at_exit c.from_residual.result c.in_err-length.field-0.0 c.from_residual.ensures.1) (long_length_stop c.args.count _ _ _ (omega arith) c.in_err-length.ensures.reads)

pub returns-clause-reads : goal.returns-clause-reads
returns-clause-reads g c = long_length_then c.args.count _ _ _ c.in_ok-length.length c.allow.result (omega arith) c.in_ok-length.ensures.reads c.allow.ensures.reads

use Rattle.std.proofs.Common.{arith}
use Rattle.oer_units.proofs.ReadExits.{at_exit}
use Rattle.oer_units.proofs.ReadLengths.{length_stop, length_short, length_form, length_long}
use Rattle.oer_units.proofs.reading.length.Goals as goal

pub returns-in_err-first-clause-reads : goal.returns-in_err-first-clause-reads
returns-in_err-first-clause-reads g c =
    rw (at_exit c.from_residual.result c.in_err-first.field-0.0 c.from_residual.ensures.1) (length_stop _ _ _ c.in_err-first.ensures.reads)

pub returns-then-first-lt128-clause-reads : goal.returns-then-first-lt128-clause-reads
returns-then-first-lt128-clause-reads g c = length_short _ _ _ c.in_ok-first.first c.allow.result c.if-first-lt128.true c.in_ok-first.ensures.reads c.allow.ensures.reads

pub returns-then-first-clause-reads : goal.returns-then-first-clause-reads
returns-then-first-clause-reads g c = length_form _ _ c.in_ok-first.first c.fault.result c.if-first.true c.fault.ensures.why c.fault.ensures.taken c.in_ok-first.ensures.reads

pub returns-else-first-clause-reads : goal.returns-else-first-clause-reads
returns-else-first-clause-reads g c = length_long _ _ _ c.in_ok-first.first c.long_length.result c.if-first-lt128.false c.if-first.false (omega arith) c.in_ok-first.ensures.reads c.long_length.ensures.reads

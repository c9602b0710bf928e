use Rattle.oer_units.proofs.ReadExits.{at_exit}
use Rattle.oer_units.proofs.ReadDigits.{tag_number_stop, tag_number_low, tag_number_got}
use Rattle.oer_units.proofs.reading.tag_number.Goals as goal

pub returns-in_err-number-clause-reads : goal.returns-in_err-number-clause-reads
returns-in_err-number-clause-reads g c =
    rw (at_exit c.from_residual.result c.in_err-number.field-0.0 c.from_residual.ensures.1) (tag_number_stop _ _ _ c.in_err-number.ensures.reads)

pub returns-then-number-lt63-clause-reads : goal.returns-then-number-lt63-clause-reads
returns-then-number-lt63-clause-reads g c = tag_number_low _ _ c.in_ok-number.number _ _ c.if-number-lt63.true c.fault.ensures.why c.fault.ensures.taken c.in_ok-number.ensures.reads

pub returns-else-number-lt63-clause-reads : goal.returns-else-number-lt63-clause-reads
returns-else-number-lt63-clause-reads g c = tag_number_got _ _ c.in_ok-number.number _ c.if-number-lt63.false c.in_ok-number.ensures.reads

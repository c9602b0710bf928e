use Rattle.std.proofs.Common.{arith, Ok, Err}
use Rattle.oer_units.proofs.ReadExits.{at_exit}
use Rattle.oer_units.proofs.ReadDigits.{tag_stop, tag_short, tag_long}
use Rattle.oer_units.proofs.reading.tag.Goals as goal

pub returns-in_err-first-clause-reads : goal.returns-in_err-first-clause-reads
returns-in_err-first-clause-reads g c =
    rw (at_exit c.from_residual.result c.in_err-first.field-0.0 c.from_residual.ensures.1) (tag_stop _ _ _ c.in_err-first.ensures.reads)

pub returns-in_err-number-clause-reads : goal.returns-in_err-number-clause-reads
returns-in_err-number-clause-reads g c =
    rw (at_exit c.from_residual-in_err-number.result c.in_err-number.field-0.0 c.from_residual-in_err-number.ensures.1)
    (tag_long _ _ _ c.in_ok-first.first c.class-class.result (Err c.in_err-number.field-0.0) (omega arith) c.if-first-lt63.false c.class-class.ensures c.in_ok-first.ensures.reads c.in_err-number.ensures.reads)

pub returns-then-first-lt63-clause-reads : goal.returns-then-first-lt63-clause-reads
returns-then-first-lt63-clause-reads g c = tag_short _ _ c.in_ok-first.first c.class-class.result (omega arith) c.if-first-lt63.true c.class-class.ensures c.in_ok-first.ensures.reads

pub returns-clause-reads : goal.returns-clause-reads
returns-clause-reads g c = tag_long _ _ _ c.in_ok-first.first c.class-class.result (Ok c.in_ok-number.number) (omega arith) c.if-first-lt63.false c.class-class.ensures c.in_ok-first.ensures.reads c.in_ok-number.ensures.reads

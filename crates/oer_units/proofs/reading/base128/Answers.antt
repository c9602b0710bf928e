use Rattle.std.proofs.Common.{arith, refl}
use Rattle.oer_units.proofs.ReadExits.{at_exit}
use Rattle.oer_units.proofs.ReadDigits.{base_stop, base_end, base_zero, base_go}
use Rattle.oer_units.proofs.reading.base128.Goals as goal

pub returns-in_err-first-clause-reads : goal.returns-in_err-first-clause-reads
returns-in_err-first-clause-reads g c =
    rw (at_exit c.from_residual.result c.in_err-first.field-0.0 c.from_residual.ensures.1) (base_stop c.args.why _ c.args.count _ _ _ c.requires.some c.in_err-first.ensures.reads)

pub returns-then-first-lt128-clause-reads : goal.returns-then-first-lt128-clause-reads
returns-then-first-lt128-clause-reads g c =
    let one = c.in_ok-first.ensures.one in
    base_end c.args.why _ c.args.count c.in_ok-first.first _ _ _ c.requires.some c.if-first-lt128.true (omega arith) (omega arith) c.in_ok-first.ensures.reads

pub returns-then-first-clause-reads : goal.returns-then-first-clause-reads
returns-then-first-clause-reads g c = base_zero c.args.why _ c.args.count c.in_ok-first.first _ _ _ c.requires.some c.requires.why c.if-first.true c.fault.ensures.why c.fault.ensures.taken c.in_ok-first.ensures.reads

pub returns-else-first-clause-reads : goal.returns-else-first-clause-reads
returns-else-first-clause-reads g c =
    let one = c.in_ok-first.ensures.one in
    let grows = c.more_digits.ensures.bound.grows in
    base_go c.args.why _ c.args.count c.in_ok-first.first _ _ _ c.more_digits.result _ _ _ c.requires.some c.if-first-lt128.false c.if-first.false (omega arith) refl (omega arith) (omega arith) c.in_ok-first.ensures.reads c.more_digits.ensures.reads

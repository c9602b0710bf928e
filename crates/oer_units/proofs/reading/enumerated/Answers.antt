use Rattle.std.proofs.Common.{arith, ◌<◌, ◌^◌}
use Rattle.std.specs.Int.{w64}
use Rattle.std.proofs.lemmas.Int.{to_z_pos}
use Rattle.oer_units.proofs.ReadExits.{at_exit}
use Rattle.oer_units.proofs.ReadCounted.{enum_stop, enum_short, enum_form, enum_long}
use Rattle.oer_units.proofs.reading.enumerated.Goals as goal

pub returns-in_err-first-clause-reads : goal.returns-in_err-first-clause-reads
returns-in_err-first-clause-reads g c =
    rw (at_exit c.from_residual.result c.in_err-first.field-0.0 c.from_residual.ensures.1) (enum_stop _ _ _ c.in_err-first.ensures.reads)

pub returns-then-first-lt128-clause-reads : goal.returns-then-first-lt128-clause-reads
returns-then-first-lt128-clause-reads g c =
    let small : c.in_ok-first.first < 2 ^ 63 = omega arith in
    rw (to_z_pos w64 c.in_ok-first.first small) (enum_short _ _ c.in_ok-first.first c.if-first-lt128.true c.in_ok-first.ensures.reads)

pub returns-then-first-clause-reads : goal.returns-then-first-clause-reads
returns-then-first-clause-reads g c = enum_form _ _ c.in_ok-first.first c.fault.result c.if-first.true c.fault.ensures.why c.fault.ensures.taken c.in_ok-first.ensures.reads

pub returns-else-first-clause-reads : goal.returns-else-first-clause-reads
returns-else-first-clause-reads g c = enum_long _ _ _ c.in_ok-first.first c.long_enumerated.result c.if-first-lt128.false c.if-first.false (omega arith) c.in_ok-first.ensures.reads c.long_enumerated.ensures.reads

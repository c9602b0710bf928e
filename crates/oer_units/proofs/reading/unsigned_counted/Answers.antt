use Rattle.std.proofs.Common.{arith, pos, false, ◌<◌, ◌^◌}
use Rattle.std.specs.Int.{w128}
use Rattle.std.proofs.lemmas.Int.{to_z_pos}
use Rattle.oer_units.specs.Numbers.{natural}
use Rattle.oer_units.specs.Reading.{is_int128}
use Rattle.oer_units.specs.ReadingSteps.{size_after}
use Rattle.oer_units.proofs.ReadExits.{at_exit}
use Rattle.oer_units.proofs.ReadNumbers.{in_int128}
use Rattle.oer_units.proofs.ReadCounted.{counted_stop, counted_empty, counted_short, counted_got, counted_large, natural_got, natural_out}
use Rattle.oer_units.proofs.reading.unsigned_counted.Goals as goal

pub returns-in_err-count-clause-reads : goal.returns-in_err-count-clause-reads
returns-in_err-count-clause-reads g c =
    rw (at_exit c.from_residual.result c.in_err-count.field-0.0 c.from_residual.ensures.1) (counted_stop natural is_int128 _ _ _ c.in_err-count.ensures.reads)

pub returns-then-count-eq0-clause-reads : goal.returns-then-count-eq0-clause-reads
returns-then-count-eq0-clause-reads g c = counted_empty natural is_int128 _ _ c.in_ok-count.count c.fault.result c.if-count-eq0.true c.fault.ensures.why c.fault.ensures.taken c.in_ok-count.ensures.reads

pub returns-in_err-value-clause-reads : goal.returns-in_err-value-clause-reads
returns-in_err-value-clause-reads g c =
    rw (at_exit c.from_residual-in_err-value.result c.in_err-value.field-0.0 c.from_residual-in_err-value.ensures.1)
    (counted_short (size_after false 0) natural is_int128 _ _ _ c.in_ok-count.count _ c.if-count-eq0.false c.in_ok-count.ensures.reads c.in_err-value.ensures.reads)

pub returns-then-value-clause-reads : goal.returns-then-value-clause-reads
returns-then-value-clause-reads g c =
    let small : c.in_ok-value.value < 2 ^ 127 = omega arith in
    rw (to_z_pos w128 c.in_ok-value.value small) (counted_got natural is_int128 _ _ _ c.in_ok-count.count (pos c.in_ok-value.value) c.if-count-eq0.false (in_int128 false c.in_ok-value.value (omega arith)) c.in_ok-count.ensures.reads (natural_got c.in_ok-count.count c.in_ok-value.value _ _ (omega arith) c.in_ok-value.ensures.reads))

pub returns-else-value-clause-reads : goal.returns-else-value-clause-reads
returns-else-value-clause-reads g c =
    counted_large natural is_int128 _ _ _ c.in_ok-count.count _ c.if-count-eq0.false c.fault-else-value.ensures.why c.fault-else-value.ensures.taken c.in_ok-count.ensures.reads (natural_out c.in_ok-count.count c.in_ok-value.value _ _ (omega arith) c.in_ok-value.ensures.reads)

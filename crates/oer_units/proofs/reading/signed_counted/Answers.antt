use Rattle.std.proofs.Common.{arith}
use Rattle.std.specs.Int.{w128}
use Rattle.std.proofs.lemmas.Int.{to_z-of_z}
use Rattle.oer_units.specs.Numbers.{signed}
use Rattle.oer_units.specs.Reading.{is_int128}
use Rattle.oer_units.specs.ReadingSteps.{twos_of_octets, int_of}
use Rattle.oer_units.proofs.ReadExits.{at_exit}
use Rattle.oer_units.proofs.ReadNumbers.{in_int128}
use Rattle.oer_units.proofs.ReadCounted.{counted_stop, counted_empty, counted_short, counted_got, counted_large, signed_got, signed_large}
use Rattle.oer_units.proofs.reading.signed_counted.Goals as goal

pub returns-in_err-count-clause-reads : goal.returns-in_err-count-clause-reads
returns-in_err-count-clause-reads g c =
    rw (at_exit c.from_residual.result c.in_err-count.field-0.0 c.from_residual.ensures.1) (counted_stop signed is_int128 _ _ _ c.in_err-count.ensures.reads)

pub returns-then-count-eq0-clause-reads : goal.returns-then-count-eq0-clause-reads
returns-then-count-eq0-clause-reads g c = counted_empty signed is_int128 _ _ c.in_ok-count.count c.fault.result c.if-count-eq0.true c.fault.ensures.why c.fault.ensures.taken c.in_ok-count.ensures.reads

pub returns-in_err-number-clause-reads : goal.returns-in_err-number-clause-reads
returns-in_err-number-clause-reads g c =
    rw (at_exit c.from_residual-in_err-number.result c.in_err-number.field-0.0 c.from_residual-in_err-number.ensures.1)
    (counted_short twos_of_octets signed is_int128 _ _ _ c.in_ok-count.count _ c.if-count-eq0.false c.in_ok-count.ensures.reads c.in_err-number.ensures.reads)

pub returns-then-number-clause-reads : goal.returns-then-number-clause-reads
returns-then-number-clause-reads g c =
    let t = c.in_ok-number.number in
    rw (to_z-of_z w128 c.wide.result (record { sfits = c.wide.type_inv }), c.wide.ensures)
    (counted_got signed is_int128 _ _ _ c.in_ok-count.count (int_of t) c.if-count-eq0.false (in_int128 t.is_below t.size (omega arith)) c.in_ok-count.ensures.reads (signed_got c.in_ok-count.count t _ _ (omega arith) (omega arith) c.in_ok-number.ensures.reads))

pub returns-else-number-clause-reads : goal.returns-else-number-clause-reads
returns-else-number-clause-reads g c =
    let t = c.in_ok-number.number in
    counted_large signed is_int128 _ _ _ c.in_ok-count.count _ c.if-count-eq0.false c.fault-else-number.ensures.why c.fault-else-number.ensures.taken c.in_ok-count.ensures.reads (signed_large c.in_ok-count.count t _ _ (omega arith) (omega arith) c.in_ok-number.ensures.reads)

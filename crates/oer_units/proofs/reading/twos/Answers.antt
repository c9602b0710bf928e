use Rattle.std.proofs.Common.{arith, refl, sym, Ok, Err}
use Rattle.oer_units.specs.ReadingSteps.{twos_of_octets}
use Rattle.oer_units.proofs.ReadExits.{at_exit}
use Rattle.oer_units.proofs.ReadGroups.{group_as_refused}
use Rattle.oer_units.proofs.ReadNumbers.{twos_then, group_as_same, digit_small, start_room}
use Rattle.oer_units.proofs.reading.twos.Goals as goal

pub returns-in_err-allow-clause-reads : goal.returns-in_err-allow-clause-reads
returns-in_err-allow-clause-reads g c = rw (at_exit c.from_residual.result c.in_err-allow.field-0.0 c.from_residual.ensures.1) (group_as_refused c.args.count twos_of_octets _ _ c.in_err-allow.ensures.reads)

pub returns-in_err-first-clause-reads : goal.returns-in_err-first-clause-reads
returns-in_err-first-clause-reads g c =
    let room = c.in_ok-allow.ensures.room in
    rw (at_exit c.from_residual-in_err-first.result c.in_err-first.field-0.0 c.from_residual-in_err-first.ensures.1) (group_as_same c.args.count twos_of_octets _ _ _ c.in_err-first.ensures.reads c.requires room)

pub returns-in_err-size-clause-reads : goal.returns-in_err-size-clause-reads
returns-in_err-size-clause-reads g c =
    let room = c.in_ok-allow.ensures.room in
    rw (at_exit c.from_residual-in_err-size.result c.in_err-size.field-0.0 c.from_residual-in_err-size.ensures.1)
    (twos_then c.args.count _ _ _ c.in_ok-first.first _ c.digit-start.result (Err c.in_err-size.field-0.0) c.requires room refl (sym c.digit-start.ensures) c.in_ok-first.ensures.reads c.in_err-size.ensures.reads)

pub returns-clause-size : goal.returns-clause-size
returns-clause-size g c =
    let small = digit_small c.in_ok-first.first (omega arith) in
    let start = c.digit-start.ensures in
    start_room c.digit-start.result _ _ c.in_ok-size.ensures.size (omega arith)

pub returns-clause-reads : goal.returns-clause-reads
returns-clause-reads g c =
    let room = c.in_ok-allow.ensures.room in
    twos_then c.args.count _ _ _ c.in_ok-first.first _ c.digit-start.result (Ok c.in_ok-size.size) c.requires room refl (sym c.digit-start.ensures) c.in_ok-first.ensures.reads c.in_ok-size.ensures.reads

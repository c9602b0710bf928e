use Rattle.std.proofs.Common.{refl, sym}
use Rattle.oer_decoder.proofs.BitReads.{initial_none, initial_stop, initial_bad, initial_got, unused_room}
use Rattle.oer_decoder.proofs.Exits.{at_fault, here}
use Rattle.oer_decoder.proofs.bit_strings.initial_octet.Goals as goal

pub returns-then-length-eq0-clause-reads : goal.returns-then-length-eq0-clause-reads
returns-then-length-eq0-clause-reads g c = initial_none c.args.length _ _ c.if-length-eq0.true refl refl

pub returns-in_err-unused-clause-reads : goal.returns-in_err-unused-clause-reads
returns-in_err-unused-clause-reads g c = rw (at_fault c.from_residual.result c.in_err-unused.field-0.0 c.from_residual.ensures.1) (here _ _ _ _ (initial_stop c.args.length _ _ _ c.if-length-eq0.false c.in_err-unused.ensures.reads))

pub returns-then-not-may_be_unused-clause-reads : goal.returns-then-not-may_be_unused-clause-reads
returns-then-not-may_be_unused-clause-reads g c = initial_bad c.args.length _ _ c.in_ok-unused.unused _ c.if-length-eq0.false c.in_ok-unused.ensures.reads (sym c.if-not-may_be_unused.ensures) refl refl

pub returns-clause-reads : goal.returns-clause-reads
returns-clause-reads g c = initial_got c.args.length _ _ c.in_ok-unused.unused c.if-length-eq0.false c.in_ok-unused.ensures.reads (sym c.if-not-may_be_unused.ensures)

pub returns-clause-room : goal.returns-clause-room
returns-clause-room g c = unused_room c.args.length c.in_ok-unused.unused c.if-length-eq0.false (sym c.if-not-may_be_unused.ensures)

use Rattle.oer_checker.proofs.Exits.{at_stop}
use Rattle.std.proofs.Common.{sym}
use Rattle.oer_checker.proofs.BitSteps.{bits_cut, bits_none, bits_stop, bits_then, bits_unfit}
use Rattle.oer_checker.proofs.bit_strings.counted_bits.Goals as goal

pub returns-in_err-length-clause-bits : goal.returns-in_err-length-clause-bits
returns-in_err-length-clause-bits c = rw (at_stop c.from_residual.result c.in_err-length.field-0.0 c.from_residual.ensures.1) (bits_stop c.args.size.now _ _ _ c.in_err-length.ensures)

pub returns-then-length-eq0-clause-bits : goal.returns-then-length-eq0-clause-bits
returns-then-length-eq0-clause-bits c = bits_none c.args.size.now _ _ c.in_ok-length.length c.in_ok-length.ensures c.if-length-eq0.true

pub returns-in_err-unused-clause-bits : goal.returns-in_err-unused-clause-bits
returns-in_err-unused-clause-bits c = rw (at_stop c.from_residual-in_err-unused.result c.in_err-unused.field-0.0 c.from_residual-in_err-unused.ensures.1) (bits_cut c.args.size.now _ _ c.in_ok-length.length _ _ c.in_ok-length.ensures c.if-length-eq0.false c.in_err-unused.ensures)

pub returns-then-not-may_be_unused-clause-bits : goal.returns-then-not-may_be_unused-clause-bits
returns-then-not-may_be_unused-clause-bits c = bits_unfit c.args.size.now _ _ _ c.in_ok-length.length c.in_ok-unused.unused c.in_ok-length.ensures c.if-length-eq0.false c.in_ok-unused.ensures (sym c.if-not-may_be_unused.ensures)

pub returns-clause-bits : goal.returns-clause-bits
returns-clause-bits c = bits_then c.args.size.now _ _ _ c.in_ok-length.length c.in_ok-unused.unused _ c.in_ok-length.ensures c.if-length-eq0.false c.in_ok-unused.ensures (sym c.if-not-may_be_unused.ensures) c.sized_bits.ensures.bits

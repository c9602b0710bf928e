use Rattle.std.proofs.Common.{Ok, Err, SFits}
use Rattle.std.specs.Int.{w64, w128}
use Rattle.std.proofs.lemmas.Int.{to_z-of_z}
use Rattle.oer_decoder.proofs.Bounds.{unsigned_stop, unsigned_got, signed_any}
use Rattle.oer_decoder.proofs.Exits.{at_fault, here}
use Rattle.oer_decoder.proofs.numbers.number.Goals as goal

pub returns-in_err-number-in-UnsignedFixed-clause-reads : goal.returns-in_err-number-in-UnsignedFixed-clause-reads
returns-in_err-number-in-UnsignedFixed-clause-reads g c =
    rw (at_fault c.from_residual.result c.in_err-number-in-UnsignedFixed.field-0.0 c.from_residual.ensures.1, c.in-UnsignedFixed.is)
    (here _ _ _ _ (unsigned_stop c.in-UnsignedFixed.width _ _ _ c.in_err-number-in-UnsignedFixed.ensures.reads))

pub returns-in_err-number-in-SignedFixed-clause-reads : goal.returns-in_err-number-in-SignedFixed-clause-reads
returns-in_err-number-in-SignedFixed-clause-reads g c =
    rw (at_fault c.from_residual-in_err-number-in-SignedFixed.result c.in_err-number-in-SignedFixed.field-0.0 c.from_residual-in_err-number-in-SignedFixed.ensures.1, c.in-SignedFixed.is)
    (here _ _ _ _ (signed_any c.in-SignedFixed.width _ _ (Err c.in_err-number-in-SignedFixed.field-0.0) c.in_err-number-in-SignedFixed.ensures.reads))

pub returns-in_ok-number-in-UnsignedFixed-clause-reads : goal.returns-in_ok-number-in-UnsignedFixed-clause-reads
returns-in_ok-number-in-UnsignedFixed-clause-reads g c =
    rw (to_z-of_z w128 c.from.result (record { sfits = c.from.type_inv }), c.from.ensures, c.in-UnsignedFixed.is)
    (unsigned_got c.in-UnsignedFixed.width _ _ c.in_ok-number-in-UnsignedFixed.number c.in_ok-number-in-UnsignedFixed.ensures.reads)

pub returns-in_ok-number-in-SignedFixed-clause-reads : goal.returns-in_ok-number-in-SignedFixed-clause-reads
returns-in_ok-number-in-SignedFixed-clause-reads g c =
    let number = c.in_ok-number-in-SignedFixed.number in
    let fits : SFits w64 number = record { sfits = (rw c.in_ok-number-in-SignedFixed.was at c.signed_fixed.type_inv).1.1.1.1.0.1 } in
    rw (to_z-of_z w128 c.from-in-SignedFixed.result (record { sfits = c.from-in-SignedFixed.type_inv }), c.from-in-SignedFixed.ensures, to_z-of_z w64 number fits, c.in-SignedFixed.is)
    (signed_any c.in-SignedFixed.width _ _ (Ok number) c.in_ok-number-in-SignedFixed.ensures.reads)

use Rattle.std.proofs.Common.{refl, SFits, sym, map}
use Rattle.std.specs.Int.{w64}
use Rattle.std.proofs.lemmas.Int.{to_z-of_z}
use Rattle.oer_values.specs.ShapeView.{named_number}
use Rattle.oer_decoder.proofs.Bounds.{enumerated_stop, enumerated_out, enumerated_got}
use Rattle.oer_decoder.proofs.Values.{value_of-Enum}
use Rattle.oer_decoder.proofs.Exits.{at_fault, here}
use Rattle.oer_decoder.proofs.numbers.read_enumerated.Goals as goal

pub returns-in_err-number-clause-reads : goal.returns-in_err-number-clause-reads
returns-in_err-number-clause-reads g c =
    rw (at_fault c.from_residual.result c.in_err-number.field-0.0 c.from_residual.ensures.1)
    (here _ _ _ _ (enumerated_stop (map named_number c.args.items.now) c.args.extensible _ _ _ c.in_err-number.ensures.reads))

pub returns-then-not-is_known-clause-reads : goal.returns-then-not-is_known-clause-reads
returns-then-not-is_known-clause-reads g c =
    let number = c.in_ok-number.number in
    let fits : SFits w64 number = record { sfits = (rw c.in_ok-number.was at c.enumerated.type_inv).1.1.1.1.0.1 } in
    enumerated_out (map named_number c.args.items.now) c.args.extensible _ _ number _ c.in_ok-number.ensures.reads (sym (rw (to_z-of_z w64 number fits) at c.if-not-is_known.ensures)) refl refl

pub returns-clause-reads : goal.returns-clause-reads
returns-clause-reads g c =
    let number = c.in_ok-number.number in
    let fits : SFits w64 number = record { sfits = (rw c.in_ok-number.was at c.enumerated.type_inv).1.1.1.1.0.1 } in
    rw (c.set.ensures, to_z-of_z w64 number fits, value_of-Enum)
    (enumerated_got (map named_number c.args.items.now) c.args.extensible _ _ number c.in_ok-number.ensures.reads (sym (rw (to_z-of_z w64 number fits) at c.if-not-is_known.ensures)))

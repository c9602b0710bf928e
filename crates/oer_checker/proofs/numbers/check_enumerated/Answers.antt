use Rattle.oer_checker.proofs.Exits.{at_stop}
use Rattle.std.proofs.Common.{SFits, map, sym}
use Rattle.std.specs.Int.{w64}
use Rattle.std.proofs.lemmas.Int.{to_z-of_z}
use Rattle.oer_values.specs.ShapeView.{named_number}
use Rattle.oer_checker.proofs.NumberSteps.{enumerated_got, enumerated_out, enumerated_stop}
use Rattle.oer_checker.proofs.numbers.check_enumerated.Goals as goal

pub returns-in_err-number : goal.returns-in_err-number
returns-in_err-number c = rw (at_stop c.from_residual.result c.in_err-number.field-0.0 c.from_residual.ensures.1) (enumerated_stop (map named_number c.args.items.now) c.args.extensible _ _ _ c.in_err-number.ensures.number)

pub returns-then-not-is_known : goal.returns-then-not-is_known
returns-then-not-is_known c =
    let z = c.in_ok-number.number in
    let fits : SFits w64 z = c.in_ok-number.ensures.range in
    enumerated_out (map named_number c.args.items.now) c.args.extensible _ _ z c.in_ok-number.ensures.number (sym (rw (to_z-of_z w64 z fits) at c.if-not-is_known.ensures))

pub returns : goal.returns
returns c =
    let z = c.in_ok-number.number in
    let fits : SFits w64 z = c.in_ok-number.ensures.range in
    rw (c.is_of_length.ensures, c.enumerated_len.ensures, to_z-of_z w64 z fits) (enumerated_got (map named_number c.args.items.now) c.args.extensible _ _ z c.in_ok-number.ensures.number (sym (rw (to_z-of_z w64 z fits) at c.if-not-is_known.ensures)))

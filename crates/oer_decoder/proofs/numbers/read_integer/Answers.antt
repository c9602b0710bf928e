use Rattle.std.proofs.Common.{refl, SFits, sym}
use Rattle.std.specs.Int.{w128}
use Rattle.std.proofs.lemmas.Int.{to_z-of_z}
use Rattle.oer_values.specs.FormView.{form_seen}
use Rattle.oer_decoder.proofs.Bounds.{integer_stop, integer_out, integer_got}
use Rattle.oer_decoder.proofs.Values.{value_of-Int}
use Rattle.oer_decoder.proofs.Exits.{at_stop}
use Rattle.oer_decoder.proofs.numbers.read_integer.Goals as goal

pub returns-in_err-number-clause-reads : goal.returns-in_err-number-clause-reads
returns-in_err-number-clause-reads g c =
    rw (at_stop c.from_residual.result c.in_err-number.field-0.0 c.from_residual.ensures.1)
    (integer_stop c.args.low c.args.high (form_seen c.of_bounds.result) _ _ _ c.of_bounds.ensures c.in_err-number.ensures.reads)

pub returns-then-not-is_in_range-clause-reads : goal.returns-then-not-is_in_range-clause-reads
returns-then-not-is_in_range-clause-reads g c =
    let fits : SFits w128 c.in_ok-number.number = record { sfits = (rw c.in_ok-number.was at c.number.type_inv).1.1.1.1.0.1 } in
    integer_out c.args.low c.args.high (form_seen c.of_bounds.result) _ _ c.in_ok-number.number _ c.of_bounds.ensures c.in_ok-number.ensures.reads
    (sym (rw (to_z-of_z w128 c.in_ok-number.number fits) at c.if-not-is_in_range.ensures)) refl refl

pub returns-clause-reads : goal.returns-clause-reads
returns-clause-reads g c =
    let fits : SFits w128 c.in_ok-number.number = record { sfits = (rw c.in_ok-number.was at c.number.type_inv).1.1.1.1.0.1 } in
    rw (c.set.ensures, to_z-of_z w128 c.in_ok-number.number fits, value_of-Int)
    (integer_got c.args.low c.args.high (form_seen c.of_bounds.result) _ _ c.in_ok-number.number c.of_bounds.ensures c.in_ok-number.ensures.reads
    (sym (rw (to_z-of_z w128 c.in_ok-number.number fits) at c.if-not-is_in_range.ensures)))

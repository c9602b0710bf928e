use Rattle.std.proofs.Common.{ap, ◌∙◌, Some}
use Rattle.std.specs.Int.{w128}
use Rattle.std.proofs.lemmas.Int.{to_z-of_z}
use Rattle.oer_literals.proofs.Numerals.{integer_of_ok, integer_of_err, integer_fits}
use Rattle.oer_literals.proofs.number.integer_of.Goals as goal

pub returns-in-Ok : goal.returns-in-Ok
returns-in-Ok c =
    ap Some (to_z-of_z w128 c.in-Ok.number (integer_fits w128 c.args.digits.now c.parse.result _ c.parse.ensures.value.0 c.in-Ok.is)) ∙ integer_of_ok c.args.digits.now c.parse.result _ c.parse.ensures.value.0 c.in-Ok.is

pub returns-in-Err : goal.returns-in-Err
returns-in-Err c = integer_of_err c.args.digits.now c.parse.result _ c.parse.ensures.value.0 c.in-Err.is

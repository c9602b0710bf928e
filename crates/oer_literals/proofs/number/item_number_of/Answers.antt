use Rattle.std.proofs.Common.{ap, ◌∙◌, Some}
use Rattle.std.specs.Int.{w64}
use Rattle.std.proofs.lemmas.Int.{to_z-of_z}
use Rattle.oer_literals.proofs.Numerals.{item_number_ok, item_number_err, integer_fits}
use Rattle.oer_literals.proofs.number.item_number_of.Goals as goal

pub returns-in-Ok : goal.returns-in-Ok
returns-in-Ok c =
    ap Some (to_z-of_z w64 c.in-Ok.number (integer_fits w64 c.args.digits.now c.parse.result _ c.parse.ensures.value.0 c.in-Ok.is)) ∙ item_number_ok c.args.digits.now c.parse.result _ c.parse.ensures.value.0 c.in-Ok.is

pub returns-in-Err : goal.returns-in-Err
returns-in-Err c = item_number_err c.args.digits.now c.parse.result _ c.parse.ensures.value.0 c.in-Err.is

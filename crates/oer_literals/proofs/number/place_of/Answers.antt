use Rattle.oer_literals.proofs.Numerals.{place_ok, place_err}
use Rattle.oer_literals.proofs.number.place_of.Goals as goal

pub returns-in-Ok : goal.returns-in-Ok
returns-in-Ok c = place_ok c.args.digits.now c.parse.result _ c.parse.ensures.value.0 c.in-Ok.is

pub returns-in-Err : goal.returns-in-Err
returns-in-Err c = place_err c.args.digits.now c.parse.result _ c.parse.ensures.value.0 c.in-Err.is

use Rattle.oer_literals.proofs.Numerals.{arc_ok, arc_err}
use Rattle.oer_literals.proofs.number.arc_of.Goals as goal

pub returns-in-Ok : goal.returns-in-Ok
returns-in-Ok c = arc_ok c.args.digits.now c.parse.result _ c.parse.ensures.value.0 c.in-Ok.is

pub returns-in-Err : goal.returns-in-Err
returns-in-Err c = arc_err c.args.digits.now c.parse.result _ c.parse.ensures.value.0 c.in-Err.is

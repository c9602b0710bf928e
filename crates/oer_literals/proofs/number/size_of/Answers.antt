use Rattle.oer_literals.proofs.Numerals.{size_ok, size_err}
use Rattle.oer_literals.proofs.number.size_of.Goals as goal

pub returns-in-Ok : goal.returns-in-Ok
returns-in-Ok c = size_ok c.args.digits.now c.parse.result _ c.parse.ensures.value.0 c.in-Ok.is

pub returns-in-Err : goal.returns-in-Err
returns-in-Err c = size_err c.args.digits.now c.parse.result _ c.parse.ensures.value.0 c.in-Err.is

use Rattle.oer_literals.proofs.Numerals.{tag_number_ok, tag_number_err}
use Rattle.oer_literals.proofs.number.tag_number_of.Goals as goal

pub returns-in-Ok : goal.returns-in-Ok
returns-in-Ok c = tag_number_ok c.args.digits.now c.parse.result _ c.parse.ensures.value.0 c.in-Ok.is

pub returns-in-Err : goal.returns-in-Err
returns-in-Err c = tag_number_err c.args.digits.now c.parse.result _ c.parse.ensures.value.0 c.in-Err.is

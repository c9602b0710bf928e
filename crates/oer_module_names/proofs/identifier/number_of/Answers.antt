use Rattle.oer_module_names.proofs.Taking.{number_err, number_ok}
use Rattle.oer_module_names.proofs.identifier.number_of.Goals as goal

pub returns-in-Ok : goal.returns-in-Ok
returns-in-Ok c = number_ok c.args.digits.now c.parse.result _ c.parse.ensures.value.0 c.in-Ok.is

pub returns-in-Err : goal.returns-in-Err
returns-in-Err c = number_err c.args.digits.now c.parse.result _ c.parse.ensures.value.0 c.in-Err.is

use Rattle.oer_checker.proofs.Exits.{at_stop}
use Rattle.oer_model.specs.Constraints.{fixed}
use Rattle.oer_checker.proofs.StringSteps.{string_got, string_stop}
use Rattle.oer_checker.proofs.strings.check_octet_string.Goals as goal

pub returns-in_err-group : goal.returns-in_err-group
returns-in_err-group c = rw (at_stop c.from_residual.result c.in_err-group.field-0.0 c.from_residual.ensures.1) (string_stop (fixed c.args.size.now) c.args.size.now _ _ _ c.in_err-group.ensures)

pub returns : goal.returns
returns c = string_got (fixed c.args.size.now) c.args.size.now _ _ _ c.in_ok-group.group.is_least c.in_ok-group.ensures

use Rattle.oer_checker.proofs.Exits.{at_stop}
use Rattle.std.proofs.Common.{sym}
use Rattle.oer_checker.proofs.StringSteps.{utf8_got, utf8_lost, utf8_sized, utf8_stop}
use Rattle.oer_checker.proofs.strings.check_utf8.Goals as goal

pub returns-in_err-group : goal.returns-in_err-group
returns-in_err-group c = rw (at_stop c.from_residual.result c.in_err-group.field-0.0 c.from_residual.ensures.1) (utf8_stop c.args.size.now _ _ _ c.in_err-group.ensures)

pub returns-in_default : goal.returns-in_default
returns-in_default c = utf8_lost c.args.size.now _ _ c.in_ok-group.group.octets.now c.in_ok-group.group.is_least c.in_ok-group.ensures c.in_default.ensures

pub returns-then-not-allows : goal.returns-then-not-allows
returns-then-not-allows c = utf8_sized c.args.size.now _ _ c.in_ok-group.group.octets.now c.in_ok-group.group.is_least c.in_ok-group.ensures c.in-Some.ensures.0 (sym (rw (c.from.ensures, c.in-Some.ensures.1) at c.if-not-allows.ensures))

pub returns : goal.returns
returns c = utf8_got c.args.size.now _ _ c.in_ok-group.group.octets.now c.in_ok-group.group.is_least c.in_ok-group.ensures c.in-Some.ensures.0 (sym (rw (c.from.ensures, c.in-Some.ensures.1) at c.if-not-allows.ensures))

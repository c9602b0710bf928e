use Rattle.oer_checker.proofs.Exits.{at_stop}
use Rattle.std.proofs.Common.{sym}
use Rattle.oer_model.specs.Constraints.{fixed}
use Rattle.oer_checker.proofs.StringSteps.{fixed_got, fixed_stop, sized_cut, sized_got, sized_misfit, sized_stop}
use Rattle.oer_checker.proofs.strings.sized_octets.Goals as goal

pub returns-in_err-octets : goal.returns-in_err-octets
returns-in_err-octets c = rw (at_stop c.from_residual.result c.in_err-octets.field-0.0 c.from_residual.ensures.1) (fixed_stop (fixed c.args.size.now) c.args.size.now _ c.in-Some.count _ _ c.in-Some.ensures c.in_err-octets.ensures)

pub returns-in-Some : goal.returns-in-Some
returns-in-Some c = fixed_got (fixed c.args.size.now) c.args.size.now _ _ c.in-Some.count c.in_ok-octets.octets.now c.in-Some.ensures c.in_ok-octets.ensures

pub returns-in_err-count : goal.returns-in_err-count
returns-in_err-count c = rw (at_stop c.from_residual-in_err-count.result c.in_err-count.field-0.0 c.from_residual-in_err-count.ensures.1) (sized_stop (fixed c.args.size.now) c.args.size.now _ _ _ c.in_default.ensures c.in_err-count.ensures)

pub returns-then-not-allows : goal.returns-then-not-allows
returns-then-not-allows c = sized_misfit (fixed c.args.size.now) c.args.size.now _ _ c.in_ok-count.count c.in_default.ensures c.in_ok-count.ensures (sym (rw c.from.ensures at c.if-not-allows.ensures))

pub returns-in_err-octets-2 : goal.returns-in_err-octets-2
returns-in_err-octets-2 c = rw (at_stop c.from_residual-in_err-octets-2.result c.in_err-octets-2.field-0.0 c.from_residual-in_err-octets-2.ensures.1) (sized_cut (fixed c.args.size.now) c.args.size.now _ _ c.in_ok-count.count _ _ c.in_default.ensures c.in_ok-count.ensures (sym (rw c.from.ensures at c.if-not-allows.ensures)) c.in_err-octets-2.ensures)

pub returns : goal.returns
returns c = sized_got (fixed c.args.size.now) c.args.size.now _ _ _ c.in_ok-count.count c.in_ok-octets-2.octets.now _ c.in_default.ensures c.in_ok-count.ensures (sym (rw c.from.ensures at c.if-not-allows.ensures)) c.in_ok-octets-2.ensures c.is_counted-is_least.ensures

use Rattle.std.proofs.Common.{arith, refl}
use Rattle.oer_units.proofs.ReadExits.{at_exit}
use Rattle.oer_units.proofs.ReadGroups.{one_filled}
use Rattle.oer_units.proofs.window.Window.next.Goals as goal

pub returns-in_err-fill-clause-reads : goal.returns-in_err-fill-clause-reads
returns-in_err-fill-clause-reads g c = rw (at_exit c.from_residual.result c.in_err-fill.field-0.0 c.from_residual.ensures.1) c.in_err-fill.ensures.reads

pub returns-clause-reads : goal.returns-clause-reads
returns-clause-reads g c =
    let count = c.in_ok-fill.ensures.count in
    one_filled _ _ c.fill.new.into _ c.in_ok-fill.field-0 (omega arith) count.0 (omega arith) (omega arith) refl c.in_ok-fill.ensures.reads

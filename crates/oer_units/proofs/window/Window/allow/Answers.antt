use Rattle.std.proofs.Common.{arith, refl}
use Rattle.oer_units.proofs.ReadGroups.{allow_ok, allow_window, allow_limit}
use Rattle.oer_units.proofs.window.Window.allow.Goals as goal

pub returns-then-n-left-clause-reads : goal.returns-then-n-left-clause-reads
returns-then-n-left-clause-reads g c = allow_ok c.args.n _ _ (omega arith) refl

pub returns-then-self-clause-reads : goal.returns-then-self-clause-reads
returns-then-self-clause-reads g c = allow_window c.args.n _ _ (omega arith) c.if-self.true c.fault.ensures.why c.fault.ensures.taken

pub returns-else-self-clause-reads : goal.returns-else-self-clause-reads
returns-else-self-clause-reads g c = allow_limit c.args.n _ _ (omega arith) c.if-self.false c.fault-else-self.ensures.why c.fault-else-self.ensures.taken

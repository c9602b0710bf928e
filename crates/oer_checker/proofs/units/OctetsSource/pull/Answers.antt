use Rattle.std.proofs.Common.{arith}
use Rattle.oer_checker.proofs.UnitSteps.{one_pulled}
use Rattle.oer_checker.proofs.units.OctetsSource.pull.Goals as goal

pub returns-clause-bytes : goal.returns-clause-bytes
returns-clause-bytes c = rw c.copy_from_slice.ensures.after (one_pulled c.args.self.now.rest.now, λ none. absurd (omega arith))

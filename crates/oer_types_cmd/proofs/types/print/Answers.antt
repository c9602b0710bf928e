use Rattle.std.proofs.Common.{inr}
use Rattle.oer_types_cmd.proofs.Ends.{at_three}
use Rattle.oer_types_cmd.proofs.types.print.Goals as goal

pub returns-clause-failed : goal.returns-clause-failed
returns-clause-failed g c = inr (at_three c.tell.result c.tell.ensures.status c.tell.ensures.most)

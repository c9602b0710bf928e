use Rattle.oer_checker.proofs.NumberSteps.{natural_result}
use Rattle.oer_checker.proofs.units.unsigned_counted_at.Goals as goal

pub returns-clause-natural : goal.returns-clause-natural
returns-clause-natural c = natural_result c.natural_at.result c.natural_at.new.at _ c.natural_at.ensures.number

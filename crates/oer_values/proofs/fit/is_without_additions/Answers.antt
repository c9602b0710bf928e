use Rattle.oer_values.proofs.FitSteps.{not_without}
use Rattle.oer_values.proofs.fit.is_without_additions.Goals as goal

pub returns-else-is_empty : goal.returns-else-is_empty
returns-else-is_empty c = not_without c.args.added.now c.args.unknown.now c.is_empty.result c.is_empty.ensures c.if-is_empty.false

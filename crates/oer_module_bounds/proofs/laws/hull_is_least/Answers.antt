use Rattle.oer_module_bounds.proofs.Deciding.{hull_is_least}
use Rattle.oer_module_bounds.proofs.laws.hull_is_least.Goals as goal

pub returns : goal.returns
returns c = hull_is_least

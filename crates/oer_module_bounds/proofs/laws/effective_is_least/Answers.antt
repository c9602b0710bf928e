use Rattle.oer_module_bounds.proofs.Deciding.{effective_is_least}
use Rattle.oer_module_bounds.proofs.laws.effective_is_least.Goals as goal

pub returns : goal.returns
returns c = effective_is_least

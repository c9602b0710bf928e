use Rattle.oer_module_bounds.proofs.Looseness.{loose_effective_has_effective}
use Rattle.oer_module_bounds.proofs.laws.loose_effective_has_effective.Goals as goal

pub returns : goal.returns
returns c = loose_effective_has_effective

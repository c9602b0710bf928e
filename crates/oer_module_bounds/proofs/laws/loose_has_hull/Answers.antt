use Rattle.oer_module_bounds.proofs.Looseness.{loose_has_hull}
use Rattle.oer_module_bounds.proofs.laws.loose_has_hull.Goals as goal

pub returns : goal.returns
returns c = loose_has_hull

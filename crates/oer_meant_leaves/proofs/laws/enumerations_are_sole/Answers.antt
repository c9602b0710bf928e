use Rattle.oer_meant_leaves.proofs.SoleItems.{items_sole}
use Rattle.oer_meant_leaves.proofs.laws.enumerations_are_sole.Goals as goal

pub returns : goal.returns
returns c = items_sole

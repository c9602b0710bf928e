use Rattle.oer_meant_leaves.proofs.SoleLeaves.{leaf_sole}
use Rattle.oer_meant_leaves.proofs.laws.leaves_are_sole.Goals as goal

pub returns : goal.returns
returns c = leaf_sole

use Rattle.oer_meant_leaves.proofs.SoleRanges.{range_sole}
use Rattle.oer_meant_leaves.proofs.laws.ranges_are_sole.Goals as goal

pub returns : goal.returns
returns c = range_sole

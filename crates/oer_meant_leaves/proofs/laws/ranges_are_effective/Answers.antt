use Rattle.oer_meant_leaves.proofs.Ranges.{effective_range}
use Rattle.oer_meant_leaves.proofs.laws.ranges_are_effective.Goals as goal

pub returns : goal.returns
returns c = effective_range

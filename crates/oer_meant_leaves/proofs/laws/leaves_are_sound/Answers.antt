use Rattle.oer_meant_leaves.proofs.Leaves.{leaf_is}
use Rattle.oer_meant_leaves.proofs.laws.leaves_are_sound.Goals as goal

pub returns : goal.returns
returns c = leaf_is

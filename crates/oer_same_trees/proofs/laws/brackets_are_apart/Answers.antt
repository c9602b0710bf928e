use Rattle.oer_same_trees.proofs.Calm.{brackets_apart}
use Rattle.oer_same_trees.proofs.laws.brackets_are_apart.Goals as goal

pub returns : goal.returns
returns c = brackets_apart

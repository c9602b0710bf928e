use Rattle.oer_same_trees.proofs.Definitions.{reads_definitions}
use Rattle.oer_same_trees.proofs.laws.definitions_are_read.Goals as goal

pub returns : goal.returns
returns c = reads_definitions

use Rattle.oer_same_trees.proofs.Definitions.{reads_texts}
use Rattle.oer_same_trees.proofs.laws.texts_are_read.Goals as goal

pub returns : goal.returns
returns c = reads_texts c.tokens_of_the_notation_are_those_of_modules.ensures

use Rattle.oer_same_trees.proofs.Parsed.{reads_parsed}
use Rattle.oer_same_trees.proofs.laws.what_is_parsed_is_read.Goals as goal

pub returns : goal.returns
returns c = reads_parsed c.tokens_of_the_notation_are_those_of_modules.ensures c.what_is_parsed_is_spelled.ensures.all

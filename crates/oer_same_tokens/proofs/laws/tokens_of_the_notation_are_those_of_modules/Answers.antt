use Rattle.oer_same_tokens.proofs.Same.{same_read}
use Rattle.oer_same_tokens.proofs.laws.tokens_of_the_notation_are_those_of_modules.Goals as goal

pub returns : goal.returns
returns c = same_read

use Rattle.oer_same_tokens.proofs.Example.{examples}
use Rattle.oer_same_tokens.proofs.laws.examples.Goals as goal

pub returns : goal.returns
returns c = examples

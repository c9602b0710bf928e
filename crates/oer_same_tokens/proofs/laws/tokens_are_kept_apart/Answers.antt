use Rattle.oer_same_tokens.proofs.Tokens.{same_behind}
use Rattle.oer_same_tokens.proofs.laws.tokens_are_kept_apart.Goals as goal

pub returns : goal.returns
returns c = same_behind

use Rattle.oer_same_defaults.proofs.Same.{same_default}
use Rattle.oer_same_defaults.proofs.laws.defaults_are_the_same.Goals as goal

pub returns : goal.returns
returns c = same_default c.named_items_are_there.ensures c.named_items_are_the_same.ensures

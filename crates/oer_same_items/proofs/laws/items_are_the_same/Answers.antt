use Rattle.oer_same_items.proofs.Limited.{same_items}
use Rattle.oer_same_items.proofs.laws.items_are_the_same.Goals as goal

pub returns : goal.returns
returns c = same_items

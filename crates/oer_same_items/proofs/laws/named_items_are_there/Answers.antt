use Rattle.oer_same_items.proofs.Items.{item_there}
use Rattle.oer_same_items.proofs.laws.named_items_are_there.Goals as goal

pub returns : goal.returns
returns c = item_there

use Rattle.oer_same_items.proofs.Items.{same_item}
use Rattle.oer_same_items.proofs.laws.named_items_are_the_same.Goals as goal

pub returns : goal.returns
returns c = same_item

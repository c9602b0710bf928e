use Rattle.oer_same_items.proofs.Limited.{same_enumerated}
use Rattle.oer_same_items.proofs.laws.enumerated_types_are_the_same.Goals as goal

pub returns : goal.returns
returns c = same_enumerated

use Rattle.oer_meant_leaves.proofs.Items.{items_are}
use Rattle.oer_meant_leaves.proofs.laws.enumerations_are_sound.Goals as goal

pub returns : goal.returns
returns c = items_are

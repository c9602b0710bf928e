use Rattle.oer_same_types.proofs.Sound.{unsized_sound}
use Rattle.oer_same_types.proofs.laws.types_without_sizes_are_sound.Goals as goal

pub returns : goal.returns
returns c = unsized_sound c.first_fault.ensures.none

use Rattle.oer_meant_types.proofs.Types.{types_sound}
use Rattle.oer_meant_types.proofs.laws.what_is_found_is_meant.Goals as goal

pub returns : goal.returns
returns c =
    types_sound c.leaves_are_sound.ensures c.defaults_are_sound.ensures c.types_are_sound.ensures c.alternatives_are_sound.ensures

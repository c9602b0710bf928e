use Rattle.oer_meant_values.proofs.Sound.{defaults_sound}
use Rattle.oer_meant_values.proofs.laws.defaults_are_sound.Goals as goal

pub returns : goal.returns
returns c = defaults_sound c.ranges_are_effective.ensures c.enumerations_are_sound.ensures

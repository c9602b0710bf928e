use Rattle.oer_module_defaults.proofs.Filling.{all_sound}
use Rattle.oer_module_defaults.proofs.laws.slots_are_sound.Goals as goal

pub returns : goal.returns
returns c = λ p es cs ss h. all_sound p es cs ss h

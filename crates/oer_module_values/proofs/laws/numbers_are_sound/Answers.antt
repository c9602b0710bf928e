use Rattle.oer_module_values.proofs.Denoted.{numbered_under}
use Rattle.oer_module_values.proofs.laws.numbers_are_sound.Goals as goal

pub returns : goal.returns
returns c = λ ms m t p a z h. numbered_under ms m t p a z h

use Rattle.oer_module_tags.proofs.Choices.{are_tags}
use Rattle.oer_module_tags.proofs.laws.alternatives_are_sound.Goals as goal

pub returns : goal.returns
returns c = λ ms m es gs h. are_tags ms m es gs h

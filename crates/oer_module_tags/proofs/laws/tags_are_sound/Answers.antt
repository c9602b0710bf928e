use Rattle.oer_module_values.specs.Types.{type_in}
use Rattle.oer_module_tags.proofs.Tagging.{sound}
use Rattle.oer_module_tags.proofs.laws.tags_are_sound.Goals as goal

pub returns : goal.returns
returns c = λ ms m t g h. sound ms 255 (type_in m t) g h

use Rattle.oer_module_parts.proofs.NumberLaws.{numbers_sound}
use Rattle.oer_module_parts.proofs.laws.numbers_are_those_of_the_items.Goals as goal

pub returns : goal.returns
returns c = numbers_sound

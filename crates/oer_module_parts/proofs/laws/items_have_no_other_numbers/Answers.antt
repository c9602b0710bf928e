use Rattle.oer_module_parts.proofs.NumberLaws.{numbers_unique}
use Rattle.oer_module_parts.proofs.laws.items_have_no_other_numbers.Goals as goal

pub returns : goal.returns
returns c = numbers_unique

use Rattle.oer_module_parts.proofs.NumberLaws.{numbers_complete}
use Rattle.oer_module_parts.proofs.laws.numbers_are_found.Goals as goal

pub returns : goal.returns
returns c = numbers_complete

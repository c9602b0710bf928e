use Rattle.oer_modules.proofs.Definitions.{prints_definitions}
use Rattle.oer_modules.proofs.laws.prints_definitions.Goals as goal

pub returns : goal.returns
returns c = prints_definitions c.printing.ensures c.what_is_parsed_is_spelled.ensures.one

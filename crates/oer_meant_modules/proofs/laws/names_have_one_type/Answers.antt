use Rattle.oer_meant_modules.proofs.Sole.{names_sole}
use Rattle.oer_meant_modules.proofs.laws.names_have_one_type.Goals as goal

pub returns : goal.returns
returns c = names_sole c.stands_for_one.ensures c.types_are_one.ensures

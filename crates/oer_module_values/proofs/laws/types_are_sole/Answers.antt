use Rattle.oer_module_values.proofs.Walks.{sole}
use Rattle.oer_module_values.proofs.laws.types_are_sole.Goals as goal

pub returns : goal.returns
returns c = λ ms m t u v gs hs h g. sole ms m t u v gs hs h g

use Rattle.oer_module_tags.proofs.Sole.{sole}
use Rattle.oer_module_tags.proofs.laws.tags_are_sole.Goals as goal

pub returns : goal.returns
returns c = λ ms m t g h a b. sole ms m t g h a b

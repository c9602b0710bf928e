use Rattle.oer_meant_types.proofs.Sole.{types_sole}
use Rattle.oer_meant_types.proofs.laws.types_are_one.Goals as goal

pub returns : goal.returns
returns c = types_sole c.types_are_sole.ensures c.leaves_are_sole.ensures c.values_are_sole.ensures c.tags_are_sole.ensures

use Rattle.oer_meant_values.proofs.SoleValues.{all_sole}
use Rattle.oer_meant_values.proofs.laws.values_are_sole.Goals as goal

pub returns : goal.returns
returns c = all_sole c.types_are_sole.ensures c.tags_are_sole.ensures c.ranges_are_sole.ensures c.enumerations_are_sole.ensures

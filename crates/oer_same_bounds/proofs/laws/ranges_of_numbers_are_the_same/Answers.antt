use Rattle.oer_same_bounds.proofs.Integers.{same_range}
use Rattle.oer_same_bounds.proofs.laws.ranges_of_numbers_are_the_same.Goals as goal

pub returns : goal.returns
returns c = same_range

use Rattle.oer_same_bounds.proofs.Sizes.{same_sizes}
use Rattle.oer_same_bounds.proofs.laws.sizes_of_strings_are_the_same.Goals as goal

pub returns : goal.returns
returns c = same_sizes

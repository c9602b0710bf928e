use Rattle.oer_same_types.proofs.Same.{same_type}
use Rattle.oer_same_types.proofs.laws.trees_are_given_their_types.Goals as goal

pub returns : goal.returns
returns c =
    same_type c.types_are_meant.ensures c.alternatives_are_meant.ensures c.tags_are_theirs.ensures c.defaults_are_the_same.ensures
    c.ranges_of_numbers_are_the_same.ensures c.sizes_of_strings_are_the_same.ensures c.enumerated_types_are_the_same.ensures

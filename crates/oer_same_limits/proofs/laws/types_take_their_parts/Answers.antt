use Rattle.oer_same_limits.proofs.Types.{types_take}
use Rattle.oer_same_limits.proofs.laws.types_take_their_parts.Goals as goal

pub returns : goal.returns
returns c =
    types_take c.types_are_meant.ensures c.alternatives_are_meant.ensures c.tags_are_theirs.ensures c.items_are_the_same.ensures
    c.named_items_are_there.ensures c.ranges_of_numbers_are_the_same.ensures c.sizes_of_strings_are_the_same.ensures
    c.enumerated_types_are_the_same.ensures

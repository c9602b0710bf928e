use Rattle.oer_same_modules.proofs.Modules.{short_as_parser}
use Rattle.oer_same_modules.proofs.laws.short_types_are_given.Goals as goal

pub returns : goal.returns
returns c = short_as_parser c.what_is_parsed_is_spelled.ensures.all c.what_is_parsed_is_read.ensures c.names_are_found_anywhere.ensures
    c.places_rise.ensures c.trees_are_given_their_types.ensures c.types_take_their_parts.ensures c.types_without_sizes_are_sound.ensures

use Rattle.oer_units.proofs.UnitLaws.{shortest_lengths, shortest_unsigned, shortest_signed, shortest_enumerations, shortest_base128, shortest_tags}
use Rattle.oer_units.proofs.WrittenWidths.{shortest_unsigned_width, shortest_signed_width}
use Rattle.oer_units.proofs.laws.a_number_has_one_shortest_list.Goals as goal

pub returns-clause-lengths : goal.returns-clause-lengths
returns-clause-lengths c = shortest_lengths

pub returns-clause-unsigned_numbers : goal.returns-clause-unsigned_numbers
returns-clause-unsigned_numbers c = shortest_unsigned

pub returns-clause-signed_numbers : goal.returns-clause-signed_numbers
returns-clause-signed_numbers c = shortest_signed

pub returns-clause-enumerations : goal.returns-clause-enumerations
returns-clause-enumerations c = shortest_enumerations

pub returns-clause-base128 : goal.returns-clause-base128
returns-clause-base128 c = shortest_base128

pub returns-clause-tags : goal.returns-clause-tags
returns-clause-tags c = shortest_tags

pub returns-clause-unsigned_widths : goal.returns-clause-unsigned_widths
returns-clause-unsigned_widths c = shortest_unsigned_width

pub returns-clause-signed_widths : goal.returns-clause-signed_widths
returns-clause-signed_widths c = shortest_signed_width

use Rattle.oer_units.specs.Numbers.{unsigned, signed}
use Rattle.oer_units.specs.Spelling.{IsLength, IsEnumerated, IsBase128, IsTag}
use Rattle.oer_units.specs.Laws.{IsUnsignedCounted, IsSignedCounted, IsOfWidth}
use Rattle.oer_units.proofs.UnitLaws.{alone_begins, lawful_alone, lengths_alone, unsigned_alone, signed_alone, enumerations_alone, base128_alone, tags_alone}
use Rattle.oer_units.proofs.FixedWidths.{unsigned_width_lawful, signed_width_lawful}
use Rattle.oer_units.proofs.laws.no_unit_begins_another.Goals as goal

pub returns-clause-lengths : goal.returns-clause-lengths
returns-clause-lengths c = alone_begins IsLength lengths_alone

pub returns-clause-unsigned_numbers : goal.returns-clause-unsigned_numbers
returns-clause-unsigned_numbers c = alone_begins IsUnsignedCounted unsigned_alone

pub returns-clause-signed_numbers : goal.returns-clause-signed_numbers
returns-clause-signed_numbers c = alone_begins IsSignedCounted signed_alone

pub returns-clause-enumerations : goal.returns-clause-enumerations
returns-clause-enumerations c = alone_begins IsEnumerated enumerations_alone

pub returns-clause-base128 : goal.returns-clause-base128
returns-clause-base128 c = alone_begins IsBase128 base128_alone

pub returns-clause-tags : goal.returns-clause-tags
returns-clause-tags c = alone_begins IsTag tags_alone

pub returns-clause-unsigned_widths : goal.returns-clause-unsigned_widths
returns-clause-unsigned_widths c width = alone_begins (IsOfWidth unsigned width) (lawful_alone (unsigned_width_lawful width))

pub returns-clause-signed_widths : goal.returns-clause-signed_widths
returns-clause-signed_widths c width = alone_begins (IsOfWidth signed width) (lawful_alone (signed_width_lawful width))

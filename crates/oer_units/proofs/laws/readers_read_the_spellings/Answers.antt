use Rattle.oer_units.specs.declared.fault.Why.TheVariants.{IntegerRange}
use Rattle.oer_units.specs.Numbers.{natural, signed}
use Rattle.oer_units.specs.Reading.{is_int128}
use Rattle.oer_units.proofs.Units.{group_lawful}
use Rattle.oer_units.proofs.Lengths.{octet_lawful, determinant_lawful}
use Rattle.oer_units.proofs.Counted.{range_goes_on, number_lawful, counted_form, counted_octets_lawful}
use Rattle.oer_units.proofs.EnumeratedNumbers.{enumeration_lawful}
use Rattle.oer_units.proofs.TagReaders.{tag_lawful}
use Rattle.oer_units.proofs.ObjectIds.{object_identifier_lawful}
use Rattle.oer_units.proofs.FixedWidths.{unsigned_width_lawful, signed_width_lawful}
use Rattle.oer_units.proofs.UnitLaws.{lengths_are_read, subidentifiers_are_read}
use Rattle.oer_units.proofs.laws.readers_read_the_spellings.Goals as goal

pub returns-clause-octet : goal.returns-clause-octet
returns-clause-octet c = octet_lawful

pub returns-clause-groups : goal.returns-clause-groups
returns-clause-groups c = group_lawful

pub returns-clause-determinants : goal.returns-clause-determinants
returns-clause-determinants c = determinant_lawful

pub returns-clause-lengths : goal.returns-clause-lengths
returns-clause-lengths c = lengths_are_read

pub returns-clause-unsigned_fixed : goal.returns-clause-unsigned_fixed
returns-clause-unsigned_fixed c = number_lawful IntegerRange range_goes_on natural is_int128

pub returns-clause-signed_fixed : goal.returns-clause-signed_fixed
returns-clause-signed_fixed c = number_lawful IntegerRange range_goes_on signed is_int128

pub returns-clause-unsigned_widths : goal.returns-clause-unsigned_widths
returns-clause-unsigned_widths c = unsigned_width_lawful

pub returns-clause-signed_widths : goal.returns-clause-signed_widths
returns-clause-signed_widths c = signed_width_lawful

pub returns-clause-unsigned_numbers : goal.returns-clause-unsigned_numbers
returns-clause-unsigned_numbers c = counted_form natural is_int128

pub returns-clause-signed_numbers : goal.returns-clause-signed_numbers
returns-clause-signed_numbers c = counted_form signed is_int128

pub returns-clause-octets : goal.returns-clause-octets
returns-clause-octets c = counted_octets_lawful

pub returns-clause-enumerations : goal.returns-clause-enumerations
returns-clause-enumerations c = enumeration_lawful

pub returns-clause-tags : goal.returns-clause-tags
returns-clause-tags c = tag_lawful

pub returns-clause-subidentifiers : goal.returns-clause-subidentifiers
returns-clause-subidentifiers c = subidentifiers_are_read

pub returns-clause-object_identifiers : goal.returns-clause-object_identifiers
returns-clause-object_identifiers c = object_identifier_lawful

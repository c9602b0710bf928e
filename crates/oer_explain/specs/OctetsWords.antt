-- What is wrong with octets that a type rejects, and what is wanted there.
use Rattle.std.specs.Prelude.{ℕ, ℤ, List, [], Option, Some, None, codes}
use Rattle.oer_units.specs.declared.fault.Why.{Why}
use Rattle.oer_units.specs.declared.fault.Why.TheVariants.{Memory, Device, End, Limit, Window, LengthForm, EmptyNumber, IntegerRange, EnumForm, UnknownEnum, Size, Character, BitUnused, ObjectId, PreamblePadding, TagForm, UnknownAlternative, UnknownAddition}
use Rattle.oer_model.specs.AsnType.{AsnType, integer, sequence_of}
use Rattle.oer_model.specs.WellFormed.{names}
use Rattle.oer_explain.specs.JsonNames.{names_shown}
use Rattle.oer_explain.specs.JsonWords.{bounds_text, sentence_line, values_wanted}

-- what the reason says of the place
abbrev pub why_sentence : Why → List ℕ
why_sentence Memory = codes "an allocation failed"
why_sentence Device = codes "a read failed"
why_sentence End = codes "the octets end within the value"
why_sentence Limit = codes "the value would pass the limit"
why_sentence Window = codes "an addition or an alternative has more octets than its value, or fewer"
why_sentence LengthForm = codes "a length begins with the octet 80"
why_sentence EmptyNumber = codes "a number has no octets"
why_sentence IntegerRange = codes "a number is out of its range"
why_sentence EnumForm = codes "the number of an item has no octets, or more than 64 bits"
why_sentence UnknownEnum = codes "no item has this number"
why_sentence Size = codes "the value is too short or too long"
why_sentence Character = codes "the type does not have this character, or it is no UTF-8"
why_sentence BitUnused = codes "the number of unused bits is missing or wrong"
why_sentence ObjectId = codes "this is no object identifier"
why_sentence PreamblePadding = codes "a bit behind those of the preamble is set"
why_sentence TagForm = codes "this is no tag, or its number is above 4,294,967,295"
why_sentence UnknownAlternative = codes "no alternative has this tag"
why_sentence UnknownAddition = codes "an addition stands at a place above 65,535"

-- of which bounds a number of an INTEGER is outside
abbrev pub outside_of : Option ℤ → Option ℤ → List ℕ
outside_of None None = codes "the number is outside of -2^127 to 2^127 - 1"
outside_of low high = codes "the number is outside of the bounds"

-- which number is out of its range
abbrev pub number_sentence : AsnType → List ℕ
number_sentence (integer low high) = outside_of low high
number_sentence T = why_sentence IntegerRange

-- what is too short or too long
abbrev pub size_sentence : AsnType → List ℕ
size_sentence (sequence_of size T) = codes "there are too few elements, or too many"
size_sentence T = why_sentence Size

-- what is wrong with a part of this type
abbrev pub octets_sentence : Why → AsnType → List ℕ
octets_sentence IntegerRange T = number_sentence T
octets_sentence Size T = size_sentence T
octets_sentence why T = why_sentence why

-- an INTEGER within these bounds, if there is one
abbrev pub bounded : Option ℤ → Option ℤ → List ℕ
bounded None None = []
bounded low high = bounds_text low high

abbrev pub bounds_wanted : AsnType → List ℕ
bounds_wanted (integer low high) = bounded low high
bounds_wanted T = []

-- what is wanted there
abbrev pub octets_wanted : Why → AsnType → List ℕ
octets_wanted IntegerRange T = bounds_wanted T
octets_wanted Size T = values_wanted T
octets_wanted Character T = values_wanted T
octets_wanted UnknownEnum T = names_shown (names T)
octets_wanted UnknownAlternative T = names_shown (names T)
octets_wanted why T = []

abbrev pub typed_line : Why → AsnType → List ℕ
typed_line why T = sentence_line (octets_sentence why T) (octets_wanted why T)

-- the line for a part that is rejected for this reason, by its type, if that is known
abbrev pub octets_line : Why → Option AsnType → List ℕ
octets_line why None = sentence_line (why_sentence why) []
octets_line why (Some T) = typed_line why T

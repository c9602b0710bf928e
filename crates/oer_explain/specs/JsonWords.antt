-- What is wrong with a part of JSON, and what is wanted there, by its type.
use Rattle.std.specs.Prelude.{ℕ, ◌==◌, ℤ, List, [], ◌∷◌, ◌++◌, true, false, Option, Some, None, codes, if◌then◌else◌}
use Rattle.std.specs.Fmt.{decimal, signed_decimal}
use Rattle.oer_model.specs.AsnType.{Alphabet, AsnType, bit_string, boolean, choice, enumerated, extensible_sequence, ia5, integer, null, numeric, object_id, octet_string, printable, restricted_string, sequence, sequence_of, utf8_string, visible}
use Rattle.oer_model.specs.WellFormed.{names}
use Rattle.oer_model.specs.declared.size.Size.{Size}
use Rattle.oer_json.specs.declared.fault.JsonFault.{JsonFault}
use Rattle.oer_json.specs.declared.fault.JsonFault.TheVariants.{Memory, Kind, Name, Missing, Range, Misfit}
use Rattle.oer_explain.specs.JsonNames.{names_shown}

-- ---- by the type

-- of which kind or form JSON has to be
abbrev pub kind_wanted : AsnType → List ℕ
kind_wanted boolean = codes "true or false"
kind_wanted null = codes "null"
kind_wanted (integer low high) = codes "a whole number, or its digits as text"
kind_wanted (enumerated items extensible) = codes "the name of an item as text, or a whole number"
kind_wanted (bit_string size) = codes "text of the digits 0 and 1"
kind_wanted (octet_string size) = codes "text of two hexadecimal digits for each octet"
kind_wanted object_id = codes "text of two or more numbers with points between them"
kind_wanted (restricted_string letters size) = codes "text"
kind_wanted (utf8_string size) = codes "text"
kind_wanted (sequence fs) = codes "an object"
kind_wanted (extensible_sequence fs more) = codes "an object, with hexadecimal digits as text at each key that begins with #"
kind_wanted (sequence_of size T) = codes "an array"
kind_wanted (choice false more) = codes "an object with one key"
kind_wanted (choice true more) = codes "an object with one key, and hexadecimal digits as text at a key that begins with #"

-- which number is too large
abbrev pub range_sentence : AsnType → List ℕ
range_sentence (integer low high) = codes "the number is outside of -2^127 to 2^127 - 1"
range_sentence (enumerated items extensible) = codes "the number is outside of -2^63 to 2^63 - 1"
range_sentence object_id = codes "a number is above 2^128 - 1"
range_sentence (extensible_sequence fs more) = codes "the place in a key that begins with # is above 65,535"
range_sentence (choice extensible more) = codes "the tag in the key is above 4,294,967,295"
range_sentence T = codes "a number is too large"

-- what doesn't fit
abbrev pub misfit_sentence : AsnType → List ℕ
misfit_sentence (integer low high) = codes "the number is outside of the bounds"
misfit_sentence (enumerated items extensible) = codes "no item has this number"
misfit_sentence object_id = codes "the first two numbers begin no object identifier"
misfit_sentence (extensible_sequence fs more) = codes "the type knows the addition of a key that begins with #, by its name"
misfit_sentence (sequence_of size T) = codes "the array has too few elements, or too many"
misfit_sentence (choice extensible more) = codes "the type knows the alternative of this key, by its name"
misfit_sentence (bit_string size) = codes "the text is too short or too long"
misfit_sentence (octet_string size) = codes "the text is too short or too long"
misfit_sentence (restricted_string letters size) = codes "the text is too short or too long, or has a character that the type does not have"
misfit_sentence (utf8_string size) = codes "the text is too short or too long"
misfit_sentence T = codes "the value does not fit the type"

-- ---- what is wanted

abbrev pub size_by : Option ℕ → ℕ → List ℕ → List ℕ
size_by None low unit = decimal low ++ (codes " or more " ++ unit)
size_by (Some high) low unit = if low == high then decimal low ++ (codes " " ++ unit) else decimal low ++ (codes " to " ++ (decimal high ++ (codes " " ++ unit)))

-- so many of this
abbrev pub size_text : Size → List ℕ → List ℕ
size_text size unit = size_by size.high size.low unit

abbrev pub bounds_text : Option ℤ → Option ℤ → List ℕ
bounds_text None None = codes "an INTEGER"
bounds_text (Some low) None = codes "an INTEGER from " ++ (signed_decimal low ++ codes " on")
bounds_text None (Some high) = codes "an INTEGER up to " ++ signed_decimal high
bounds_text (Some low) (Some high) = codes "an INTEGER from " ++ (signed_decimal low ++ (codes " to " ++ signed_decimal high))

abbrev pub letters_text : Alphabet → List ℕ
letters_text ia5 = codes "characters of IA5String"
letters_text visible = codes "characters of VisibleString"
letters_text numeric = codes "characters of NumericString"
letters_text printable = codes "characters of PrintableString"

-- which values fit
abbrev pub values_wanted : AsnType → List ℕ
values_wanted (integer low high) = bounds_text low high
values_wanted (enumerated items extensible) = names_shown (names (enumerated items extensible))
values_wanted (bit_string size) = size_text size (codes "bits")
values_wanted (octet_string size) = size_text size (codes "octets")
values_wanted object_id = codes "a number up to 2, and behind 0 or 1 one up to 39"
values_wanted (restricted_string letters size) = size_text size (letters_text letters)
values_wanted (utf8_string size) = size_text size (codes "characters")
values_wanted (sequence_of size T) = size_text size (codes "elements")
values_wanted T = []

-- ---- by the fault

-- what is wrong with a part that is rejected as it stands
abbrev pub sentence_of : JsonFault → AsnType → List ℕ
sentence_of Memory T = codes "an allocation failed"
sentence_of Kind T = codes "this is JSON of another kind or form"
sentence_of Name T = codes "no item has this name"
sentence_of Missing T = codes "a key is missing"
sentence_of Range T = range_sentence T
sentence_of Misfit T = misfit_sentence T

-- what is wanted there
abbrev pub wanted_of : JsonFault → AsnType → List ℕ
wanted_of Memory T = []
wanted_of Kind T = kind_wanted T
wanted_of Name T = names_shown (names T)
wanted_of Missing T = []
wanted_of Range T = []
wanted_of Misfit T = values_wanted T

-- what is wrong with a key that the type doesn't have
abbrev pub unknown_sentence : AsnType → List ℕ
unknown_sentence (choice extensible more) = codes "no alternative has this name"
unknown_sentence T = codes "no component has this name"

-- a sentence, with what is wanted, in a line
abbrev pub sentence_line : List ℕ → List ℕ → List ℕ
sentence_line sentence [] = codes "  " ++ (sentence ++ codes "\n")
sentence_line sentence (c ∷ cs) = codes "  " ++ (sentence ++ (codes "; wanted: " ++ (c ∷ cs ++ codes "\n")))

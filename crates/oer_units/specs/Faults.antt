-- The numbers and names of the reasons for which octets are refused.
use Rattle.std.specs.Prelude.{ℕ, List, codes}
use Rattle.oer_units.specs.declared.fault.Why.{Why}
use Rattle.oer_units.specs.declared.fault.Why.TheVariants.{Memory, Device, End, Limit, Window, LengthForm, EmptyNumber, IntegerRange, EnumForm, UnknownEnum, Size, Character, BitUnused, ObjectId, PreamblePadding, TagForm, UnknownAlternative, UnknownAddition}

abbrev pub why_number : Why → ℕ
why_number Memory = 1
why_number Device = 2
why_number End = 3
why_number Limit = 4
why_number Window = 5
why_number LengthForm = 6
why_number EmptyNumber = 7
why_number IntegerRange = 8
why_number EnumForm = 9
why_number UnknownEnum = 10
why_number Size = 11
why_number Character = 12
why_number BitUnused = 13
why_number ObjectId = 14
why_number PreamblePadding = 15
why_number TagForm = 16
why_number UnknownAlternative = 17
why_number UnknownAddition = 18

abbrev pub why_name : Why → List ℕ
why_name Memory = codes "Memory"
why_name Device = codes "Device"
why_name End = codes "End"
why_name Limit = codes "Limit"
why_name Window = codes "Window"
why_name LengthForm = codes "LengthForm"
why_name EmptyNumber = codes "EmptyNumber"
why_name IntegerRange = codes "IntegerRange"
why_name EnumForm = codes "EnumForm"
why_name UnknownEnum = codes "UnknownEnum"
why_name Size = codes "Size"
why_name Character = codes "Character"
why_name BitUnused = codes "BitUnused"
why_name ObjectId = codes "ObjectId"
why_name PreamblePadding = codes "PreamblePadding"
why_name TagForm = codes "TagForm"
why_name UnknownAlternative = codes "UnknownAlternative"
why_name UnknownAddition = codes "UnknownAddition"

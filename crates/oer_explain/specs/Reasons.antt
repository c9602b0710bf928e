-- What the reasons of errors mean, in a sentence each.
use Rattle.std.specs.Prelude.{ℕ, List, codes}
use Rattle.oer_model.specs.declared.fault.SchemaFault.{SchemaFault}
use Rattle.oer_model.specs.declared.fault.SchemaFault.TheVariants.{TooDeep, TooManyParts, BoundOrder, SizeOrder, BadName, RepeatedName, NoItems, RepeatedNumber, RepeatedTag, DefaultMisfit, EmptyElement}
use Rattle.oer_value_notation.specs.declared.fault.TextWhy.{TextWhy}
use Rattle.oer_value_notation.specs.declared.fault.TextWhy.TheVariants.{Memory, Token, Syntax, Number, Name, Repeated, Mixed, Default, Schema}

-- what is wrong with a type that isn't well-formed
abbrev pub schema_sentence : SchemaFault → List ℕ
schema_sentence TooDeep = codes "types are nested more than 32 deep"
schema_sentence TooManyParts = codes "the type has more than 4,096 parts"
schema_sentence BoundOrder = codes "in the type that begins here, a lower bound is above the upper one"
schema_sentence SizeOrder = codes "in the type that begins here, a size ends below its begin"
schema_sentence BadName = codes "in the type that begins here, a name is no identifier"
schema_sentence RepeatedName = codes "in the type that begins here, a name stands twice in a SEQUENCE, CHOICE or ENUMERATED"
schema_sentence NoItems = codes "in the type that begins here, an ENUMERATED has no items, or a CHOICE no alternatives"
schema_sentence RepeatedNumber = codes "in the type that begins here, a number stands twice in an ENUMERATED"
schema_sentence RepeatedTag = codes "in the type that begins here, a tag stands twice in a CHOICE"
schema_sentence DefaultMisfit = codes "in the type that begins here, a value after DEFAULT does not fit"
schema_sentence EmptyElement = codes "in the type that begins here, elements of a SEQUENCE OF may take no octets"

-- what the reason for which a text is rejected says of the place
abbrev pub text_sentence : TextWhy → List ℕ
text_sentence Memory = codes "an allocation failed"
text_sentence Token = codes "no word, number, sign or quoted text begins here, or a comment or quoted text has no end"
text_sentence Syntax = codes "the notation has no such word or sign here, or the text ends too early"
text_sentence Number = codes "the number is out of the range of its place"
text_sentence Name = codes "no definition before this place has this Name"
text_sentence Repeated = codes "a definition before this place has this Name already"
text_sentence Mixed = codes "all alternatives have tags or none, and all items have numbers or none"
text_sentence Default = codes "the value after DEFAULT is not in the notation of the type"
text_sentence (Schema fault) = schema_sentence fault

-- The type that a `Shape` stands for.
use Rattle.std.specs.Prelude.{ℕ, List, [], ◌∷◌, map, true, false, Option, Some, None, Vec, string_bytes}
use Rattle.std.specs.declared.alloc.Global.{Global}
use Rattle.oer_units.specs.declared.tagging.Tag.{Tag}
use Rattle.oer_model.specs.AsnType.{Need, must, may, default, NamedNumber, ia5, visible, numeric, printable, AsnType, boolean, null, integer, enumerated, bit_string, octet_string, object_id, restricted_string, utf8_string, sequence, extensible_sequence, sequence_of, choice, Fields, no_fields, field, Additions, no_additions, addition, Alternatives, no_alternatives, alternative, later}
use Rattle.oer_values.specs.ValueView.{value_of}
use Rattle.oer_values.specs.declared.shape.Item.{Item}
use Rattle.oer_values.specs.declared.shape.Need as rust_need
use Rattle.oer_values.specs.declared.shape.Need.TheVariants.{Must, May, Default}
use Rattle.oer_values.specs.declared.shape.Shape.{Shape, fold-Shape}
use Rattle.oer_values.specs.declared.shape.Shape.TheOpen.{Shape-F, Addition-F, Alt-F, Field-F}
use Rattle.oer_values.specs.declared.shape.Field.{Field}
use Rattle.oer_values.specs.declared.shape.Addition.{Addition}
use Rattle.oer_values.specs.declared.shape.Alt.{Alt}

abbrev pub need_of : rust_need.Need → Need
need_of Must = must
need_of May = may
need_of (Default v) = default (value_of v)

abbrev pub named_number : Item → NamedNumber
named_number i = record { name = string_bytes i.name; number = i.number }

-- the parts of a SEQUENCE or CHOICE, with their types
pub record SeenField : Type 0 where
  pub name : List ℕ
  pub need : Need
  pub type : AsnType

pub record SeenAddition : Type 0 where
  pub name : List ℕ
  pub type : AsnType

pub record SeenAlternative : Type 0 where
  pub name : List ℕ
  pub tag : Tag
  pub type : AsnType

abbrev pub fields_from : List SeenField → Fields
fields_from [] = no_fields
fields_from (f ∷ fs) = field f.name f.need f.type (fields_from fs)

abbrev pub additions_from : List SeenAddition → Additions
additions_from [] = no_additions
additions_from (a ∷ more) = addition a.name a.type (additions_from more)

-- after the extension marker
abbrev pub later_from : List SeenAlternative → Alternatives
later_from [] = no_alternatives
later_from (a ∷ more) = later a.name a.tag a.type (later_from more)

-- before it, and what follows it
abbrev pub root_from : List SeenAlternative → Alternatives → Alternatives
root_from [] after = after
root_from (a ∷ more) after = alternative a.name a.tag a.type (root_from more after)

abbrev pub sequence_from : List SeenField → Option (Vec SeenAddition Global) → AsnType
sequence_from fs None = sequence (fields_from fs)
sequence_from fs (Some more) = extensible_sequence (fields_from fs) (additions_from more.items)

abbrev pub choice_from : List SeenAlternative → Option (Vec SeenAlternative Global) → AsnType
choice_from root None = choice false (root_from root no_alternatives)
choice_from root (Some more) = choice true (root_from root (later_from more.items))

-- one level, with each part already seen as what it stands for
abbrev pub shape_step : Shape-F AsnType SeenAddition SeenAlternative SeenField → AsnType
shape_step Shape-F.Boolean = boolean
shape_step Shape-F.Null = null
shape_step (Shape-F.Integer low high) = integer low high
shape_step (Shape-F.Enumerated items extensible) = enumerated (map named_number items.items) extensible
shape_step (Shape-F.BitString size) = bit_string size
shape_step (Shape-F.OctetString size) = octet_string size
shape_step Shape-F.ObjectId = object_id
shape_step (Shape-F.Ia5 size) = restricted_string ia5 size
shape_step (Shape-F.Visible size) = restricted_string visible size
shape_step (Shape-F.Numeric size) = restricted_string numeric size
shape_step (Shape-F.Printable size) = restricted_string printable size
shape_step (Shape-F.Utf8 size) = utf8_string size
shape_step (Shape-F.Sequence root additions) = sequence_from root.items additions
shape_step (Shape-F.SequenceOf size item) = sequence_of size item.value
shape_step (Shape-F.Choice root additions) = choice_from root.items additions

abbrev pub addition_step : Addition-F AsnType SeenAddition SeenAlternative SeenField → SeenAddition
addition_step a = record { name = string_bytes a.name; type = a.shape }

abbrev pub alt_step : Alt-F AsnType SeenAddition SeenAlternative SeenField → SeenAlternative
alt_step a = record { name = string_bytes a.name; tag = a.tag; type = a.shape }

abbrev pub field_step : Field-F AsnType SeenAddition SeenAlternative SeenField → SeenField
field_step f = record { name = string_bytes f.name; need = need_of f.need; type = f.shape }

abbrev pub type_of : Shape → AsnType
type_of = fold-Shape AsnType SeenAddition SeenAlternative SeenField shape_step addition_step alt_step field_step

abbrev pub seen_field : Field → SeenField
seen_field f = record { name = string_bytes f.name; need = need_of f.need; type = type_of f.shape }

abbrev pub seen_addition : Addition → SeenAddition
seen_addition a = record { name = string_bytes a.name; type = type_of a.shape }

abbrev pub seen_alternative : Alt → SeenAlternative
seen_alternative a = record { name = string_bytes a.name; tag = a.tag; type = type_of a.shape }

abbrev pub fields_of : List Field → Fields
fields_of fs = fields_from (map seen_field fs)

abbrev pub additions_of : List Addition → Additions
additions_of xs = additions_from (map seen_addition xs)

abbrev pub later_of : List Alt → Alternatives
later_of xs = later_from (map seen_alternative xs)

abbrev pub root_of : List Alt → Alternatives → Alternatives
root_of xs after = root_from (map seen_alternative xs) after

abbrev pub sequence_with : List Field → Option (Vec Addition Global) → AsnType
sequence_with fs None = sequence (fields_of fs)
sequence_with fs (Some more) = extensible_sequence (fields_of fs) (additions_of more.items)

abbrev pub choice_with : List Alt → Option (Vec Alt Global) → AsnType
choice_with root None = choice false (root_of root no_alternatives)
choice_with root (Some more) = choice true (root_of root (later_of more.items))

-- the additions, of which there are none without an extension marker
abbrev pub known_additions : Option (Vec Addition Global) → List Addition
known_additions None = []
known_additions (Some more) = more.items

abbrev pub known_later : Option (Vec Alt Global) → List Alt
known_later None = []
known_later (Some more) = more.items

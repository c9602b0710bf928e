-- What a type is.
use Rattle.std.specs.Prelude.{ℕ, ℤ, List, Bool, Option}
use Rattle.oer_units.specs.declared.tagging.Tag.{Tag}
use Rattle.oer_model.specs.declared.size.Size.{Size}
use Rattle.oer_model.specs.AsnValue.{AsnValue}
use Rattle.oer_model.specs.LeafType.{LeafType}
use Rattle.oer_model.specs.LeafType as kind
pub use Rattle.oer_model.specs.LeafType.{Alphabet, NamedNumber, ia5, numeric, printable, visible}

-- whether a component may be absent
pub data Need : Type 0 where
  must may : Need
  default : AsnValue → Need

mutual
  pub data AsnType : Type 0 where
    leaf : LeafType → AsnType
    sequence : Fields → AsnType
    -- with an extension marker
    extensible_sequence : Fields → Additions → AsnType
    sequence_of : Size → AsnType → AsnType
    -- whether there is an extension marker, and the alternatives
    choice : Bool → Alternatives → AsnType

  -- the components of a SEQUENCE's root: name, need and type
  pub data Fields : Type 0 where
    no_fields : Fields
    field : List ℕ → Need → AsnType → Fields → Fields

  -- the components after a SEQUENCE's extension marker: name and type
  pub data Additions : Type 0 where
    no_additions : Additions
    addition : List ℕ → AsnType → Additions → Additions

  -- the alternatives of a CHOICE: name, tag and type; later: after the extension marker
  pub data Alternatives : Type 0 where
    no_alternatives : Alternatives
    alternative later : List ℕ → Tag → AsnType → Alternatives → Alternatives

-- The types that hold no other, by their kinds.
pattern abbrev pub boolean : AsnType
boolean = leaf kind.boolean

pattern abbrev pub null : AsnType
null = leaf kind.null

pattern abbrev pub integer : Option ℤ → Option ℤ → AsnType
integer low high = leaf (kind.integer low high)

pattern abbrev pub enumerated : List NamedNumber → Bool → AsnType
enumerated items extensible = leaf (kind.enumerated items extensible)

pattern abbrev pub bit_string : Size → AsnType
bit_string size = leaf (kind.bit_string size)

pattern abbrev pub octet_string : Size → AsnType
octet_string size = leaf (kind.octet_string size)

pattern abbrev pub object_id : AsnType
object_id = leaf kind.object_id

pattern abbrev pub restricted_string : Alphabet → Size → AsnType
restricted_string letters size = leaf (kind.restricted_string letters size)

pattern abbrev pub utf8_string : Size → AsnType
utf8_string size = leaf (kind.utf8_string size)

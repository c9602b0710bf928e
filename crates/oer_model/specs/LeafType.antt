-- The types that hold no other type.
use Rattle.std.specs.Prelude.{ℕ, ℤ, List, Bool, Option, Some, None}
use Rattle.oer_model.specs.ContentType.{ContentType}
use Rattle.oer_model.specs.ContentType as kind
pub use Rattle.oer_model.specs.ContentType.{Alphabet, ia5, numeric, printable, visible}
use Rattle.oer_model.specs.declared.size.Size.{Size}

-- an item of an ENUMERATED
pub record NamedNumber : Type 0 where
  pub name : List ℕ
  pub number : ℤ

pub data LeafType : Type 0 where
  boolean null : LeafType
  -- the bounds
  integer : Option ℤ → Option ℤ → LeafType
  -- the items, and whether there is an extension marker
  enumerated : List NamedNumber → Bool → LeafType
  bit_string : Size → LeafType
  content : ContentType → LeafType

-- The types of contents, by their kinds.
pattern abbrev pub octet_string : Size → LeafType
octet_string size = content (kind.octet_string size)

pattern abbrev pub object_id : LeafType
object_id = content kind.object_id

pattern abbrev pub restricted_string : Alphabet → Size → LeafType
restricted_string letters size = content (kind.restricted_string letters size)

pattern abbrev pub utf8_string : Size → LeafType
utf8_string size = content (kind.utf8_string size)

-- the size constraint of a string, also where it allows every size
abbrev pub string_size : LeafType → Option Size
string_size (bit_string size) = Some size
string_size (octet_string size) = Some size
string_size (restricted_string letters size) = Some size
string_size (utf8_string size) = Some size
string_size kind = None

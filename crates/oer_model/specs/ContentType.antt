-- The types whose encoding is contents that have one spelling, after a length or alone.
use Rattle.oer_model.specs.declared.size.Size.{Size}

-- the character strings that have one octet for each character
pub data Alphabet : Type 0 where
  ia5 visible numeric printable : Alphabet

pub data ContentType : Type 0 where
  octet_string : Size → ContentType
  object_id : ContentType
  restricted_string : Alphabet → Size → ContentType
  utf8_string : Size → ContentType

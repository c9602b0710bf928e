-- What types are called in the notation.
use Rattle.std.specs.Prelude.{ℕ, List, Option, Some, None, codes}
use Rattle.oer_model.specs.AsnType.{AsnType, choice, extensible_sequence, leaf, sequence, sequence_of}
use Rattle.oer_model.specs.ContentType.{Alphabet, ContentType, ia5, numeric, object_id, octet_string, printable, restricted_string, utf8_string, visible}
use Rattle.oer_model.specs.LeafType.{LeafType, bit_string, boolean, content, enumerated, integer, null}

abbrev pub string_kind : Alphabet → List ℕ
string_kind ia5 = codes "IA5String"
string_kind visible = codes "VisibleString"
string_kind numeric = codes "NumericString"
string_kind printable = codes "PrintableString"

abbrev pub content_kind : ContentType → List ℕ
content_kind (octet_string size) = codes "OCTET STRING"
content_kind object_id = codes "OBJECT IDENTIFIER"
content_kind (restricted_string letters size) = string_kind letters
content_kind (utf8_string size) = codes "UTF8String"

abbrev pub leaf_kind : LeafType → List ℕ
leaf_kind boolean = codes "BOOLEAN"
leaf_kind null = codes "NULL"
leaf_kind (integer low high) = codes "INTEGER"
leaf_kind (enumerated numbers extensible) = codes "ENUMERATED"
leaf_kind (bit_string size) = codes "BIT STRING"
leaf_kind (content kind) = content_kind kind

-- the kind of a type, where that is known
abbrev pub kind_text : Option AsnType → List ℕ
kind_text None = codes "unknown"
kind_text (Some (leaf kind)) = leaf_kind kind
kind_text (Some (sequence fs)) = codes "SEQUENCE"
kind_text (Some (extensible_sequence fs more)) = codes "SEQUENCE"
kind_text (Some (sequence_of size T)) = codes "SEQUENCE OF"
kind_text (Some (choice extensible more)) = codes "CHOICE"

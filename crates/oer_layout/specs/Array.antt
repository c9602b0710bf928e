-- The array that `--json` prints, as a plain function of the entries.
use Rattle.std.specs.Prelude.{ℕ, List, [], ◌∷◌, ◌++◌, length, map, Bool, true, false, Option, None, Some, Vec, codes}
use Rattle.std.specs.Fmt.{decimal}
use Rattle.std.specs.Global.{Global}
use Rattle.oer_layout.specs.Text.{Text}
use Rattle.hex.specs.Hex.{encode_lower}
use Rattle.serde_json.specs.Data as json
use Rattle.serde_json.specs.Data.{Data, Members, member, no_members, unsigned}
use Rattle.serde_json.specs.View.{items_of, view}
use Rattle.serde_json.specs.Written.{compact_text}
use Rattle.oer_units.specs.declared.tagging.Class.{Class}
use Rattle.oer_units.specs.declared.tagging.Class.TheVariants.{Universal, Application, Context, Private}
use Rattle.oer_units.specs.declared.tagging.Tag.{Tag}
use Rattle.oer_entries.specs.Names.{text_of}
use Rattle.oer_entries.specs.declared.bits.NamedBit.{NamedBit}
use Rattle.oer_entries.specs.declared.entry.Entry.{Entry}
use Rattle.oer_entries.specs.declared.entry.What.{What}
use Rattle.oer_entries.specs.declared.entry.What.TheVariants as what
use Rattle.oer_entries.specs.declared.frame.Name.{Name}
use Rattle.oer_places.specs.Visible.{visible}

-- a tag in the notation
abbrev pub class_text : Class → Text
class_text Universal = codes "[UNIVERSAL "
class_text Application = codes "[APPLICATION "
class_text Context = codes "["
class_text Private = codes "[PRIVATE "

abbrev pub tag_text : Tag → Text
tag_text t = class_text t.class ++ decimal t.number ++ codes "]"

-- the object of a bit
abbrev pub bit_data : NamedBit → Data
bit_data b = json.object (member (codes "name") (json.string (text_of b.name)) (member (codes "set") (json.boolean b.is_set) no_members))

abbrev pub bits_data : List NamedBit → Data
bits_data bs = json.array (items_of (map bit_data bs))

-- the object of a tag, with the name of the alternative
abbrev pub tag_data : Tag → Name → Data
tag_data t name = json.object (member (codes "name") (json.string (text_of name)) (member (codes "tag") (json.string (tag_text t)) no_members))

-- what the octets say
abbrev pub value_data : What → Data
value_data (what.Preamble bits) = bits_data bits.items
value_data (what.Bitmap bits) = bits_data bits.items
value_data (what.Quantity n) = json.number (unsigned n)
value_data (what.Tag t name) = tag_data t name
value_data (what.UnknownTag t name) = tag_data t name
value_data (what.Length n) = json.number (unsigned n)
value_data (what.Value j) = view j.json
value_data what.Unknown = json.null
value_data what.Follows = json.null
value_data what.Rejected = json.null

-- what they are
abbrev pub role_text : What → Text
role_text (what.Preamble bits) = codes "preamble"
role_text (what.Bitmap bits) = codes "bitmap"
role_text (what.Quantity n) = codes "quantity"
role_text (what.Tag t name) = codes "tag"
role_text (what.UnknownTag t name) = codes "rejected"
role_text (what.Length n) = codes "length"
role_text (what.Value j) = codes "value"
role_text what.Unknown = codes "unknown"
role_text what.Follows = codes "follows"
role_text what.Rejected = codes "rejected"

abbrev pub octets_data : List ℕ → Data
octets_data b = json.string (encode_lower b)

-- with a member for the canonical spelling, if it is another one
abbrev pub with_canonical : Option (Vec ℕ Global) → Members → Members
with_canonical None ms = ms
with_canonical (Some octets) ms = json.put (codes "canonical") (octets_data octets.items) ms

-- the object of an entry, its members in the order of their keys
abbrev pub object_of : Entry → Data
object_of e = json.object (with_canonical e.canonical
    (member (codes "count") (json.number (unsigned (length e.octets.now)))
    (member (codes "default") (json.boolean e.is_default)
    (member (codes "kind") (json.string e.kind.now)
    (member (codes "names") (json.string e.names.now)
    (member (codes "octets") (octets_data e.octets.now)
    (member (codes "offset") (json.number (unsigned e.offset))
    (member (codes "path") (json.string e.path.now)
    (member (codes "role") (json.string (role_text e.what))
    (member (codes "value") (value_data e.what) no_members))))))))))

-- the begin of an object, with the member for the canonical spelling, if it is another one
abbrev pub opening : Option (Vec ℕ Global) → Text
opening None = codes "{"
opening (Some octets) = codes "{\"canonical\":" ++ (compact_text (octets_data octets.items) ++ codes ",")

-- what stands before an object: nothing before the first, a comma and a line feed before each other
abbrev pub separator : Bool → Text
separator true = []
separator false = 44 ∷ 10 ∷ []

-- the texts of objects, printed as Visible.antt says; is_first: none stands before them
abbrev pub objects_text : Bool → List Entry → Text
objects_text is_first [] = []
objects_text is_first (e ∷ es) = separator is_first ++ (visible (compact_text (object_of e)) ++ objects_text false es)

abbrev pub array_text : List Entry → Text
array_text es = codes "[" ++ objects_text true es ++ 93 ∷ 10 ∷ []

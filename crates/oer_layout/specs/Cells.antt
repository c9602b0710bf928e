-- What stands in the columns of an entry's line, as plain functions of the entry.
use Rattle.std.specs.Prelude.{ℕ, ◌-◌, List, [], ◌∷◌, ◌++◌, length, take, flat_map, Bool, true, false, cond, nat_eq, nat_lt, Option, None, Some, Vec, codes, string_bytes}
use Rattle.std.specs.Cmp.Lexicographic.{pointwise}
use Rattle.std.specs.Fmt.{decimal}
use Rattle.std.specs.Global.{Global}
use Rattle.oer_layout.specs.Text.{Text}
use Rattle.hex.specs.Hex.{encode_lower}
use Rattle.serde_json.specs.View.{view}
use Rattle.serde_json.specs.Written.{compact_text}
use Rattle.oer_units.specs.declared.tagging.Tag.{Tag}
use Rattle.oer_entries.specs.Names.{text_of}
use Rattle.oer_entries.specs.declared.bits.NamedBit.{NamedBit}
use Rattle.oer_entries.specs.declared.entry.Entry.{Entry}
use Rattle.oer_entries.specs.declared.entry.What.{What}
use Rattle.oer_entries.specs.declared.entry.What.TheVariants as what
use Rattle.oer_entries.specs.declared.frame.Name.{Name}
use Rattle.oer_layout.specs.Array.{tag_text}
use Rattle.oer_places.specs.Visible.{visible}
use Rattle.oer_layout.specs.declared.line.Line.{Line}

-- the cells of a line
pub record Cells : Type 0 where
  pub offset : ℕ
  pub count : ℕ
  pub path : Text
  pub names : Text
  pub kind : Text
  pub value : Text
  -- whether the value is octets, two digits for each, between quotation marks
  pub is_digits : Bool
  -- what stands behind the value
  pub note : Text

-- a text; `-` stands for the empty one
abbrev pub or_dash : Text → Text
or_dash [] = codes "-"
or_dash (x ∷ xs) = x ∷ xs

-- ---- values

abbrev pub set_text : Bool → Text
set_text true = codes "=1"
set_text false = codes "=0"

-- a bit by its name
abbrev pub bit_text : NamedBit → Text
bit_text b = codes " " ++ (text_of b.name ++ set_text b.is_set)

-- a word, and bits by their names
abbrev pub bits_text : Text → List NamedBit → Text
bits_text word bits = word ++ flat_map bit_text bits

-- octets in hexadecimal digits, between quotation marks
abbrev pub quoted_digits : List ℕ → Text
quoted_digits b = codes "\"" ++ (encode_lower b ++ codes "\"")

-- a tag, and the alternative that has it
abbrev pub choice_text : Tag → Name → Text
choice_text t name = codes "tag " ++ (tag_text t ++ (codes " " ++ text_of name))

-- what these octets say
abbrev pub value_text : What → List ℕ → Text
value_text (what.Preamble bits) b = bits_text (codes "preamble") bits.items
value_text (what.Bitmap bits) b = bits_text (codes "bitmap") bits.items
value_text (what.Quantity n) b = codes "quantity " ++ decimal n
value_text (what.Tag t name) b = choice_text t name
value_text (what.UnknownTag t name) b = choice_text t name
value_text (what.Length n) b = codes "length " ++ decimal n
value_text (what.Value j) b = visible (compact_text (view j.json))
value_text what.Unknown b = quoted_digits b
value_text what.Follows b = quoted_digits b
value_text what.Rejected b = quoted_digits b

-- whether that is octets: those of an OCTET STRING, and those of which the type says nothing
abbrev pub are_digits : What → Text → Bool
are_digits (what.Preamble bits) kind = false
are_digits (what.Bitmap bits) kind = false
are_digits (what.Quantity n) kind = false
are_digits (what.Tag t name) kind = false
are_digits (what.UnknownTag t name) kind = false
are_digits (what.Length n) kind = false
are_digits (what.Value j) kind = pointwise nat_eq kind (codes "OCTET STRING")
are_digits what.Unknown kind = true
are_digits what.Follows kind = true
are_digits what.Rejected kind = true

-- ---- notes

-- octets in hexadecimal digits: of more than eight the first eight, and how many are left out
abbrev pub first_digits : List ℕ → Text
first_digits b = cond (nat_lt 8 (length b)) (encode_lower (take 8 b) ++ (codes "..+" ++ decimal (length b - 8))) (encode_lower b)

abbrev pub digits_or_none : List ℕ → Text
digits_or_none [] = codes "none"
digits_or_none (x ∷ xs) = first_digits (x ∷ xs)

-- of octets, and of those that canonical octets have in their place, if they are others
abbrev pub canonical_note : Option (Vec ℕ Global) → List ℕ → Text
canonical_note None b = []
canonical_note (Some octets) b = codes " -- basic " ++ (first_digits b ++ (codes ", canonical " ++ digits_or_none octets.items))

-- of octets that follow the value, or that made the reader reject the input
abbrev pub end_note : What → Text
end_note (what.Preamble bits) = []
end_note (what.Bitmap bits) = []
end_note (what.Quantity n) = []
end_note (what.Tag t name) = []
end_note (what.UnknownTag t name) = codes " -- rejected"
end_note (what.Length n) = []
end_note (what.Value j) = []
end_note what.Unknown = []
end_note what.Follows = codes " -- follows"
end_note what.Rejected = codes " -- rejected"

abbrev pub default_note : Bool → Text
default_note true = codes " -- DEFAULT, canonical absent"
default_note false = []

abbrev pub note_of : Entry → Text
note_of e = end_note e.what ++ (canonical_note e.canonical e.octets.now ++ default_note e.is_default)

-- ---- all of them

abbrev pub cells_of : Entry → Cells
cells_of e = record {
  offset = e.offset;
  count = length e.octets.now;
  path = or_dash e.path.now;
  names = or_dash e.names.now;
  kind = e.kind.now;
  value = value_text e.what e.octets.now;
  is_digits = are_digits e.what e.kind.now;
  note = note_of e;
}

-- those of a line of the program
abbrev pub cells_in : Line → Cells
cells_in l = record {
  offset = l.offset;
  count = l.count;
  path = l.path.now;
  names = l.names.now;
  kind = l.kind.now;
  value = string_bytes l.value;
  is_digits = l.is_digits;
  note = string_bytes l.note;
}

-- The JSON of a value.
use Rattle.std.specs.Prelude.{ℕ, ◌^◌, ℤ, pos, negsuc, nat_lt, List, [], ◌∷◌, map, Bool, Option, Some, None, if◌then◌else◌}
use Rattle.std.specs.Fmt.{signed_decimal}
use Rattle.hex.specs.Hex.{encode_lower}
use Rattle.serde_json.specs.Data as json
use Rattle.serde_json.specs.Data.{Data, Items, Members}
use Rattle.serde_json.specs.Find.{of_integer}
use Rattle.oer_units.specs.declared.tagging.Tag.{Tag}
use Rattle.oer_model.specs.LeafValue.{LeafValue, bit_list, bool, enum, int, nothing, octets, oid, text}
use Rattle.oer_model.specs.AsnType.{Additions, Alternatives, AsnType, Fields, NamedNumber, addition, alternative, choice, enumerated, extensible_sequence, field, later, no_additions, no_alternatives, no_fields, sequence, sequence_of}
use Rattle.oer_model.specs.AsnValue.{AsnValue, Places, Unknown, Values, absent, chosen, foreign, items, leaf_value, no_places, no_values, present, seq, unknown, value}
use Rattle.oer_model.specs.Constraints.{same_tag}
use Rattle.oer_json.specs.Keys.{place_key, tag_key}
use Rattle.oer_literals.specs.Bits.{bit_digit}
use Rattle.oer_literals.specs.Items.{name_of}
use Rattle.oer_json.specs.Texts.{dotted}

abbrev pub has_64_bits : ℤ → Bool
has_64_bits (pos n) = nat_lt n (2 ^ 63)
has_64_bits (negsuc n) = nat_lt n (2 ^ 63)

-- a number in two's complement of 64 bits, else decimal text
abbrev pub made_integer : ℤ → Data
made_integer z = if has_64_bits z then json.number (of_integer z) else json.string (signed_decimal z)

-- the item's name; a number where no item has it
abbrev pub made_item : Option (List ℕ) → ℤ → Data
made_item None z = json.number (of_integer z)
made_item (Some name) z = json.string name

abbrev pub made_octets : List ℕ → Data
made_octets w = json.string (encode_lower w)

abbrev pub one_member : List ℕ → Data → Data
one_member name j = json.object (json.member name j json.no_members)

-- f of each value
abbrev pub made_items : (AsnValue → Data) → Values → Items
made_items f no_values = json.no_items
made_items f (value v vs) = json.item (f v) (made_items f vs)

-- a member for each addition that the type doesn't know
abbrev pub put_unknown : List Unknown → Members → Members
put_unknown [] ms = ms
put_unknown (unknown n w ∷ us) ms = put_unknown us (json.put (place_key n) (made_octets w) ms)

-- the items of an ENUMERATED; another type has none
abbrev pub named_numbers : AsnType → List NamedNumber
named_numbers (enumerated numbers extensible) = numbers
named_numbers T = []

-- that of a value that holds no other. Of its type only the items matter.
abbrev pub made_leaf : List NamedNumber → LeafValue → Data
made_leaf numbers (bool b) = json.boolean b
made_leaf numbers nothing = json.null
made_leaf numbers (int z) = made_integer z
made_leaf numbers (enum z) = made_item (name_of numbers z) z
made_leaf numbers (bit_list s) = json.string (map bit_digit s)
made_leaf numbers (octets w) = made_octets w
made_leaf numbers (oid arcs) = json.string (dotted arcs)
made_leaf numbers (text w) = json.string w

-- The JSON of a value that fits the type. One that holds others and is of another kind has null.
abbrev mutual
  pub made : AsnType → AsnValue → Data
  made T (leaf_value v) = made_leaf (named_numbers T) v
  made (sequence fs) (seq root added us) = json.object (put_fields fs root json.no_members)
  made (extensible_sequence fs more) (seq root added us) =
      json.object (put_unknown us (put_additions more added (put_fields fs root json.no_members)))
  made (sequence_of size T) (items vs) = json.array (made_items (made T) vs)
  made (choice extensible more) (chosen t v) = made_alternative more t v
  made T (foreign t w) = one_member (tag_key t) (made_octets w)
  made T v = json.null

  -- a member for each component that is there
  pub put_fields : Fields → Places → Members → Members
  put_fields no_fields ps ms = ms
  put_fields (field name need T fs) no_places ms = ms
  put_fields (field name need T fs) (absent ps) ms = put_fields fs ps ms
  put_fields (field name need T fs) (present v ps) ms = put_fields fs ps (json.put name (made T v) ms)

  pub put_additions : Additions → Places → Members → Members
  put_additions no_additions ps ms = ms
  put_additions (addition name T more) no_places ms = ms
  put_additions (addition name T more) (absent ps) ms = put_additions more ps ms
  put_additions (addition name T more) (present v ps) ms = put_additions more ps (json.put name (made T v) ms)

  -- an object with one member, by the first alternative that has the tag
  pub made_alternative : Alternatives → Tag → AsnValue → Data
  made_alternative no_alternatives t v = json.null
  made_alternative (alternative name u T more) t v = if same_tag u t then one_member name (made T v) else made_alternative more t v
  made_alternative (later name u T more) t v = if same_tag u t then one_member name (made T v) else made_alternative more t v

-- with a member for a component that is there
abbrev pub with_place : List ℕ → AsnType → Option AsnValue → Members → Members
with_place name T None ms = ms
with_place name T (Some v) ms = json.put name (made T v) ms

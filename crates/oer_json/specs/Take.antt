-- How JSON is taken as a value: the value, or the first fault.
use Rattle.std.specs.Prelude.{ℕ, ℤ, nat_lt, List, [], ◌∷◌, length, map, Bool, true, false, ◌||◌, Option, Some, None, is_some, Result, Ok, Err, ⊤, if◌then◌else◌}
use Rattle.std.specs.Str.{bytes_eq}
use Rattle.hex.specs.Hex.{decode_of}
use Rattle.hex.specs.declared.error.FromHexError.{FromHexError}
use Rattle.oer_units.specs.declared.tagging.Class.{Class}
use Rattle.oer_units.specs.declared.tagging.Tag.{Tag}
use Rattle.serde_json.specs.Data as json
use Rattle.serde_json.specs.Data.{Data, Items, Members, Num}
use Rattle.serde_json.specs.Find.{as_null, as_bool, as_str, as_array, as_object, as_integer, get_member}
use Rattle.oer_model.specs.AsnType.{Additions, Alternatives, AsnType, Fields, NamedNumber, addition, alternative, bit_string, boolean, choice, enumerated, extensible_sequence, field, integer, later, leaf, no_additions, no_alternatives, no_fields, null, object_id, octet_string, restricted_string, sequence, sequence_of, utf8_string}
use Rattle.oer_model.specs.AsnValue.{AsnValue, Places, Unknown, Values, bit_list, bool, chosen, enum, foreign, int, items, no_places, no_values, nothing, octets, oid, seq, text, unknown, value}
use Rattle.oer_model.specs.Constraints.{addition_count, size_fits}
use Rattle.oer_values.specs.DefaultView.{place}
use Rattle.oer_model.specs.FitTest.{is_fit, may_be_absent, values_length}
use Rattle.oer_model.specs.WellFormed.{field_names, addition_names}
use Rattle.oer_model.specs.declared.size.Size.{Size}
use Rattle.oer_json.specs.Answer.{◌>>=◌, some_or}
use Rattle.oer_json.specs.Keys.{all_pass, beyond_in, is_among, keys_of, place_digits, place_key, places_in, tag_digits}
use Rattle.oer_json.specs.Made.{has_64_bits}
use Rattle.oer_literals.specs.Numbers.{arc_of, integer_of, tag_number_of}
use Rattle.oer_literals.specs.Bits.{is_one}
use Rattle.oer_literals.specs.Items.{number_named}
use Rattle.oer_json.specs.Texts.{all_natural, are_bits, is_whole, parts}
use Rattle.oer_json.specs.declared.fault.JsonFault.{JsonFault}
use Rattle.oer_json.specs.declared.fault.JsonFault.TheVariants.{Kind, Name, Missing, Range, Misfit}

-- the value, if it fits
abbrev pub fitting : AsnType → AsnValue → Result AsnValue JsonFault
fitting T v = if is_fit T v then Ok v else Err Misfit

-- ---- types without parts

abbrev pub bool_in : Data → Result Bool JsonFault
bool_in j = some_or Kind (as_bool j)

abbrev pub null_in : Data → Result ⊤ JsonFault
null_in j = some_or Kind (as_null j)

-- a number that JSON holds as a whole one
abbrev pub held : Num → Result ℤ JsonFault
held n = some_or Kind (as_integer n)

-- a whole number in decimal
unfoldable pub decimal_in : List ℕ → Result ℤ JsonFault
decimal_in s = if is_whole s then some_or Range (integer_of s) else Err Kind

abbrev pub integer_in : Data → Result ℤ JsonFault
integer_in (json.number n) = held n
integer_in (json.string s) = decimal_in s
integer_in json.null = Err Kind
integer_in (json.boolean b) = Err Kind
integer_in (json.array js) = Err Kind
integer_in (json.object ms) = Err Kind

-- within 64 bits
abbrev pub in_64_bits : ℤ → Result ℤ JsonFault
in_64_bits z = if has_64_bits z then Ok z else Err Range

unfoldable pub held_small : Num → Result ℤ JsonFault
held_small n = held n >>= in_64_bits

abbrev pub item_named : List NamedNumber → List ℕ → Result ℤ JsonFault
item_named numbers s = some_or Name (number_named numbers s)

-- the number of an item
abbrev pub item_in : List NamedNumber → Data → Result ℤ JsonFault
item_in numbers (json.number n) = held_small n
item_in numbers (json.string s) = item_named numbers s
item_in numbers json.null = Err Kind
item_in numbers (json.boolean b) = Err Kind
item_in numbers (json.array js) = Err Kind
item_in numbers (json.object ms) = Err Kind

-- a text
abbrev pub text_in : Data → Result (List ℕ) JsonFault
text_in j = some_or Kind (as_str j)

abbrev pub from_hex : Result (List ℕ) FromHexError → Result (List ℕ) JsonFault
from_hex (Ok w) = Ok w
from_hex (Err e) = Err Kind

unfoldable pub octets_in : Data → Result (List ℕ) JsonFault
octets_in j = text_in j >>= λ s. from_hex (decode_of s)

abbrev pub bits_of_text : List ℕ → Result (List Bool) JsonFault
bits_of_text s = if are_bits s then Ok (map is_one s) else Err Kind

unfoldable pub bits_in : Data → Result (List Bool) JsonFault
bits_in j = text_in j >>= bits_of_text

abbrev pub number_in : List ℕ → Result ℕ JsonFault
number_in w = some_or Range (arc_of w)

-- numbers below 2^128
abbrev pub numbers_in : List (List ℕ) → Result (List ℕ) JsonFault
numbers_in [] = Ok []
numbers_in (w ∷ ws) = number_in w >>= λ x. numbers_in ws >>= λ xs. Ok (x ∷ xs)

-- numbers with points between them
abbrev pub several_in : List ℕ → Result (List ℕ) JsonFault
several_in s = if all_natural (parts [] s) then numbers_in (parts [] s) else Err Kind

-- two or more
unfoldable pub dotted_in : List ℕ → Result (List ℕ) JsonFault
dotted_in s = if nat_lt 1 (length (parts [] s)) then several_in s else Err Kind

unfoldable pub arcs_in : Data → Result (List ℕ) JsonFault
arcs_in j = text_in j >>= dotted_in

-- made into a value, if there is something
abbrev pub as_value : {A : Type 0} → (A → AsnValue) → Result A JsonFault → Result AsnValue JsonFault
as_value make (Ok x) = Ok (make x)
as_value make (Err e) = Err e

-- the value of a type that holds no other, whether it fits or not
abbrev pub leaf_in : AsnType → Data → Result AsnValue JsonFault
leaf_in boolean j = as_value bool (bool_in j)
leaf_in null j = as_value (λ _. nothing) (null_in j)
leaf_in (integer low high) j = as_value int (integer_in j)
leaf_in (enumerated numbers extensible) j = as_value enum (item_in numbers j)
leaf_in (bit_string size) j = as_value bit_list (bits_in j)
leaf_in (octet_string size) j = as_value octets (octets_in j)
leaf_in object_id j = as_value oid (arcs_in j)
leaf_in (restricted_string letters size) j = as_value text (text_in j)
leaf_in (utf8_string size) j = as_value text (text_in j)
leaf_in T j = Err Kind

-- the same, if it fits
abbrev pub take_leaf : AsnType → Data → Result AsnValue JsonFault
take_leaf T j = leaf_in T j >>= fitting T

-- ---- parts

-- f of each item
abbrev pub take_items : (Data → Result AsnValue JsonFault) → Items → Result Values JsonFault
take_items f json.no_items = Ok no_values
take_items f (json.item j js) = f j >>= λ v. take_items f js >>= λ vs. Ok (value v vs)

abbrev pub sized : Size → Values → Result AsnValue JsonFault
sized size vs = if size_fits size (values_length vs) then Ok (items vs) else Err Misfit

-- a component: its value where the object has its key
abbrev pub take_place : Bool → (Data → Result AsnValue JsonFault) → Option Data → Result (Option AsnValue) JsonFault
take_place optional f None = if optional then Ok None else Err Missing
take_place optional f (Some j) = f j >>= λ v. Ok (Some v)

-- octets, if there are some
abbrev pub octets_at : Option Data → Result (List ℕ) JsonFault
octets_at None = Err Kind
octets_at (Some j) = octets_in j

-- the addition at a place, of a type that knows so many
unfoldable pub unknown_at : ℕ → ℕ → Option Data → Result Unknown JsonFault
unknown_at known n j = octets_at j >>= λ w. if nat_lt n known then Err Misfit else Ok (unknown n w)

-- the additions at the places
abbrev pub unknown_from : ℕ → List ℕ → Members → Result (List Unknown) JsonFault
unknown_from known [] ms = Ok []
unknown_from known (n ∷ ns) ms = unknown_at known n (get_member (place_key n) ms) >>= λ u. unknown_from known ns ms >>= λ us. Ok (u ∷ us)

-- the fault at a place from 65,536 on
abbrev pub beyond_at : Option Data → Result ⊤ JsonFault
beyond_at j = octets_at j >>= λ w. Err Range

-- what was taken, unless there is such a place
abbrev pub unless_beyond : List Unknown → Option (List ℕ) → Members → Result (List Unknown) JsonFault
unless_beyond us None ms = Ok us
unless_beyond us (Some key) ms = beyond_at (get_member key ms) >>= λ _. Ok us

-- the additions that the type doesn't know, those that it knows being so many
unfoldable pub take_unknown : ℕ → Members → Result (List Unknown) JsonFault
take_unknown known ms = unknown_from known (places_in [] (keys_of ms)) ms >>= λ us. unless_beyond us (beyond_in None (keys_of ms)) ms

-- the members of an object
abbrev pub members_in : Data → Result Members JsonFault
members_in j = some_or Kind (as_object j)

-- the items of an array
abbrev pub items_in : Data → Result Items JsonFault
items_in j = some_or Kind (as_array j)

-- the one member
abbrev pub only_member : Members → Result (List ℕ × Data) JsonFault
only_member json.no_members = Err Kind
only_member (json.member k d json.no_members) = Ok (k, d)
only_member (json.member k d (json.member l e ms)) = Err Kind

unfoldable pub one_member : Data → Result (List ℕ × Data) JsonFault
one_member j = members_in j >>= only_member

abbrev pub tag_of : Class → ℕ → Tag
tag_of c n = record { class = c; number = n }

-- an alternative that the type doesn't know, by the class and the digits of its tag
unfoldable pub foreign_with : AsnType → Class × List ℕ → Data → Result AsnValue JsonFault
foreign_with T tag j = octets_in j >>= λ w. some_or Range (tag_number_of tag.1) >>= λ n. fitting T (foreign (tag_of tag.0 n) w)

unfoldable pub foreign_in : AsnType → List ℕ → Data → Result AsnValue JsonFault
foreign_in T key j = some_or Name (tag_digits key) >>= λ tag. foreign_with T tag j

-- where the type has an extension marker
abbrev pub take_foreign : AsnType → Bool → List ℕ → Data → Result AsnValue JsonFault
take_foreign T false key j = Err Name
take_foreign T true key j = foreign_in T key j

-- a key of a SEQUENCE with an extension marker
abbrev pub is_key : List (List ℕ) → List (List ℕ) → List ℕ → Bool
is_key root added key = is_among root key || (is_among added key || is_some (place_digits key))

abbrev mutual
  pub take : AsnType → Data → Result AsnValue JsonFault
  take (leaf kind) j = take_leaf (leaf kind) j
  take (sequence fs) j = members_in j
      >>= λ ms. if all_pass (is_among (field_names fs)) (keys_of ms) then
      (take_fields fs ms >>= λ root. Ok (seq root no_places [])) else Err Name
  take (extensible_sequence fs more) j = members_in j >>= λ ms. if all_pass (is_key (field_names fs) (addition_names more)) (keys_of ms)
      then (take_fields fs ms >>= λ root. take_additions more ms >>= λ added. take_unknown (addition_count more) ms
      >>= λ us. Ok (seq root added us)) else Err Name
  take (sequence_of size T) j = items_in j >>= λ js. take_items (take T) js >>= sized size
  take (choice extensible more) j =
      one_member j >>= λ m. take_alternative (take_foreign (choice extensible more) extensible m.0 m.1) more m.0 m.1

  pub take_fields : Fields → Members → Result Places JsonFault
  take_fields no_fields ms = Ok no_places
  take_fields (field name need T fs) ms =
      take_place (may_be_absent need) (take T) (get_member name ms) >>= λ p. take_fields fs ms >>= λ ps. Ok (place p ps)

  pub take_additions : Additions → Members → Result Places JsonFault
  take_additions no_additions ms = Ok no_places
  take_additions (addition name T more) ms =
      take_place true (take T) (get_member name ms) >>= λ p. take_additions more ms >>= λ ps. Ok (place p ps)

  -- by the first alternative that has the name; otherwise: what is answered where none has it
  pub take_alternative : Result AsnValue JsonFault → Alternatives → List ℕ → Data → Result AsnValue JsonFault
  take_alternative otherwise no_alternatives key j = otherwise
  take_alternative otherwise (alternative name t T more) key j =
      if bytes_eq name key then (take T j >>= λ v. Ok (chosen t v)) else take_alternative otherwise more key j
  take_alternative otherwise (later name t T more) key j =
      if bytes_eq name key then (take T j >>= λ v. Ok (chosen t v)) else take_alternative otherwise more key j

-- the value, or the first fault. In the end the whole value is tested for its fit.
unfoldable pub taken : AsnType → Data → Result AsnValue JsonFault
taken T j = take T j >>= fitting T

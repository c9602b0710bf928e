-- Which JSON stands for which value.
use Rattle.std.specs.Prelude.{◌≡◌, ℕ, ℤ, ◌⊎◌, List, [], ◌∷◌, map, Option, Some, None, Ok}
use Rattle.std.specs.Fmt.{signed_decimal}
use Rattle.hex.specs.Hex.{decode_of}
use Rattle.serde_json.specs.Data as json
use Rattle.serde_json.specs.Data.{Data, Items, Members, Num}
use Rattle.serde_json.specs.Find.{as_integer, get_member}
use Rattle.oer_units.specs.declared.tagging.Tag.{Tag}
use Rattle.oer_model.specs.LeafValue.{LeafValue, enum, int, octets}
use Rattle.oer_model.specs.AsnType.{Additions, Alternatives, AsnType, Fields, NamedNumber, addition, alternative, choice, extensible_sequence, field, later, leaf, no_additions, no_alternatives, no_fields, sequence, sequence_of}
use Rattle.oer_model.specs.AsnValue.{AsnValue, Places, Unknown, Values, absent, chosen, foreign, items, leaf_value, no_places, no_values, present, seq, unknown, value}
use Rattle.oer_model.specs.Fits.{Fits}
use Rattle.oer_model.specs.WellFormed.{AnyOf, field_names, addition_names}
use Rattle.oer_json.specs.Keys.{EachKey, place_key, tag_key}
use Rattle.oer_json.specs.Made.{named_numbers, made_leaf}

-- a whole number that JSON holds as such
abbrev pub HoldsWhole : ℤ → Data → Type 0
HoldsWhole z j = (n : Num) × (j ≡ json.number n) × (as_integer n ≡ Some z)

-- such a number, or decimal text: no digit 0 in front of another, a minus where the number is below 0
abbrev pub DenotesInteger : ℤ → Data → Type 0
DenotesInteger z j = HoldsWhole z j ⊎ (j ≡ json.string (signed_decimal z))

-- such a number, or the name of an item that has the number
abbrev pub DenotesItem : List NamedNumber → ℤ → Data → Type 0
DenotesItem numbers z j = HoldsWhole z j
    ⊎ ((name : List ℕ) × (j ≡ json.string name) × AnyOf (λ (i : NamedNumber). (i.name ≡ name) × (i.number ≡ z)) numbers)

-- two hexadecimal digits of either case for each octet
abbrev pub DenotesOctets : List ℕ → Data → Type 0
DenotesOctets w j = (s : List ℕ) × (j ≡ json.string s) × (decode_of s ≡ Ok w)

-- a value for each item, in order
abbrev pub DenoteItems : (AsnValue → Data → Type 0) → Values → Items → Type 0
DenoteItems P no_values json.no_items = Unit {0}
DenoteItems P (value v vs) (json.item j js) = P v j × DenoteItems P vs js
DenoteItems P vs js = ⊥

-- the first component is there exactly where the object has its key; Rest: the others
abbrev pub DenotesPlace : (AsnValue → Data → Type 0) → (Places → Type 0) → Option Data → Places → Type 0
DenotesPlace P Rest None (absent ps) = Rest ps
DenotesPlace P Rest (Some j) (present v ps) = P v j × Rest ps
DenotesPlace P Rest found ps = ⊥

abbrev pub unknown_key : Unknown → List ℕ
unknown_key (unknown n w) = place_key n

-- the object has a member for each addition that the type doesn't know
abbrev pub DenoteUnknown : List Unknown → Members → Type 0
DenoteUnknown [] ms = Unit {0}
DenoteUnknown (unknown n w ∷ us) ms = ((j : Data) × (get_member (place_key n) ms ≡ Some j) × DenotesOctets w j) × DenoteUnknown us ms

-- one of the names
abbrev pub IsOneOf : List (List ℕ) → List ℕ → Type 0
IsOneOf names key = AnyOf (λ name. name ≡ key) names

-- the key of a component, of an addition that the type knows, or of one that it doesn't
abbrev pub IsPart : Fields → Additions → List Unknown → List ℕ → Type 0
IsPart fs more us key = IsOneOf (field_names fs) key ⊎ (IsOneOf (addition_names more) key ⊎ IsOneOf (map unknown_key us) key)

-- an object with one member
abbrev pub only : List ℕ → Data → Data
only key j = json.object (json.member key j json.no_members)

-- The JSON stands for a value that holds no other, of a type with these items. Numbers, items and octets have more spellings than
-- the one that is made; another value has that one.
abbrev pub LeafDenotes : List NamedNumber → LeafValue → Data → Type 0
LeafDenotes numbers (int z) j = DenotesInteger z j
LeafDenotes numbers (enum z) j = DenotesItem numbers z j
LeafDenotes numbers (octets w) j = DenotesOctets w j
LeafDenotes numbers v j = j ≡ made_leaf numbers v

-- The JSON stands for the value; whether this fits the type is said apart. An object's keys come in any order, and it has none but
-- those of parts that are there.
abbrev mutual
  pub Denotes : AsnType → AsnValue → Data → Type 0
  Denotes (leaf kind) (leaf_value v) j = LeafDenotes (named_numbers (leaf kind)) v j
  Denotes (sequence fs) (seq root added us) j = (ms : Members) × (j ≡ json.object ms) × EachKey (IsOneOf (field_names fs)) ms
      × DenoteFields fs root ms
  Denotes (extensible_sequence fs more) (seq root added us) j = (ms : Members) × (j ≡ json.object ms)
      × EachKey (IsPart fs more us) ms × DenoteFields fs root ms × DenoteAdditions more added ms × DenoteUnknown us ms
  Denotes (sequence_of size T) (items vs) j = (js : Items) × (j ≡ json.array js) × DenoteItems (Denotes T) vs js
  Denotes (choice extensible more) (chosen t v) j = (key : List ℕ) × (d : Data) × (j ≡ only key d) × DenotesAlternative more key t v d
  Denotes (choice extensible more) (foreign t w) j = (d : Data) × (j ≡ only (tag_key t) d) × DenotesOctets w d
  Denotes T v j = ⊥

  pub DenoteFields : Fields → Places → Members → Type 0
  DenoteFields no_fields ps ms = ps ≡ no_places
  DenoteFields (field name need T fs) ps ms = DenotesPlace (Denotes T) (λ rest. DenoteFields fs rest ms) (get_member name ms) ps

  pub DenoteAdditions : Additions → Places → Members → Type 0
  DenoteAdditions no_additions ps ms = ps ≡ no_places
  DenoteAdditions (addition name T more) ps ms = DenotesPlace (Denotes T) (λ rest. DenoteAdditions more rest ms) (get_member name ms) ps

  -- an alternative with the name and the tag
  pub DenotesAlternative : Alternatives → List ℕ → Tag → AsnValue → Data → Type 0
  DenotesAlternative no_alternatives key t v j = ⊥
  DenotesAlternative (alternative name u T more) key t v j = ((name ≡ key) × (u ≡ t) × Denotes T v j) ⊎ DenotesAlternative more key t v j
  DenotesAlternative (later name u T more) key t v j = ((name ≡ key) × (u ≡ t) × Denotes T v j) ⊎ DenotesAlternative more key t v j

-- JSON of a value of the type: it stands for the value, and this fits the type.
abbrev pub IsJsonOf : AsnType → AsnValue → Data → Type 0
IsJsonOf T v j = Denotes T v j × Fits T v

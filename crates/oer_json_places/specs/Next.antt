-- What is wrong with JSON that a type rejects: a part of it, or itself.
use Rattle.std.specs.Prelude.{ℕ, suc, List, [], ◌∷◌, Bool, true, false, not, ◌&&◌, Option, Some, None, Result, Ok, Err, if◌then◌else◌}
use Rattle.std.specs.Str.{bytes_eq}
use Rattle.serde_json.specs.Data as json
use Rattle.serde_json.specs.Data.{Data, Items, Members}
use Rattle.serde_json.specs.Find.{as_array, as_object, get_member}
use Rattle.oer_model.specs.AsnType.{Additions, Alternatives, AsnType, Fields, addition, alternative, choice, extensible_sequence, field, later, leaf, no_additions, no_alternatives, no_fields, sequence, sequence_of}
use Rattle.oer_model.specs.FitTest.{may_be_absent}
use Rattle.oer_model.specs.WellFormed.{addition_names, field_names}
use Rattle.oer_json.specs.Keys.{is_among, keys_of}
use Rattle.oer_json.specs.Take.{is_key, one_member}
use Rattle.oer_json.specs.declared.fault.JsonFault.{JsonFault}
use Rattle.oer_json.specs.declared.fault.JsonFault.TheVariants.{Missing, Name}
use Rattle.oer_json_places.specs.Rejected.{is_rejected}

-- a step to a part: the key of a member, or the number of an element
pub data Hop : Type 0 where
  key : List ℕ → Hop
  element : ℕ → Hop

-- what is wrong: a key that the type doesn't have, the key of a component that must be there, or the JSON as it stands
pub data Wrong : Type 0 where
  unknown_key missing_key : List ℕ → Wrong
  itself : Wrong

-- the trouble is in a part, of this type; or here
pub data Next : Type 0 where
  into : Hop → AsnType → Data → Next
  stop : Wrong → Next

abbrev pub is_missing : JsonFault → Bool
is_missing Missing = true
is_missing fault = false

abbrev pub is_name : JsonFault → Bool
is_name Name = true
is_name fault = false

abbrev pub or_else : {A : Type 0} → Option A → Option A → Option A
or_else None other = other
or_else (Some x) other = Some x

abbrev pub or_stop : Option Next → Next
or_stop None = stop itself
or_stop (Some n) = n

-- ---- a SEQUENCE

-- a component or an addition: it is rejected with that fault, or it must be there and isn't
abbrev pub place_next : JsonFault → List ℕ → Bool → AsnType → Option Data → Option Next
place_next fault name optional T None = if not optional && is_missing fault then Some (stop (missing_key name)) else None
place_next fault name optional T (Some j) = if is_rejected fault T j then Some (into (key name) T j) else None

-- the first of the components
abbrev pub fields_next : JsonFault → Fields → Members → Option Next
fields_next fault no_fields ms = None
fields_next fault (field name need T fs) ms =
    or_else (place_next fault name (may_be_absent need) T (get_member name ms)) (fields_next fault fs ms)

abbrev pub additions_next : JsonFault → Additions → Members → Option Next
additions_next fault no_additions ms = None
additions_next fault (addition name T more) ms = or_else (place_next fault name true T (get_member name ms)) (additions_next fault more ms)

-- the first of these that fails the test
abbrev pub first_other : (List ℕ → Bool) → List (List ℕ) → Option (List ℕ)
first_other known [] = None
first_other known (k ∷ ks) = if known k then first_other known ks else Some k

-- a key that the type doesn't have comes before its components
abbrev pub by_key : Option (List ℕ) → Option Next → Next
by_key (Some k) found = stop (unknown_key k)
by_key None found = or_stop found

abbrev pub in_sequence : JsonFault → Fields → Option Members → Next
in_sequence fault fs None = stop itself
in_sequence fault fs (Some ms) = by_key (first_other (is_among (field_names fs)) (keys_of ms)) (fields_next fault fs ms)

abbrev pub in_extensible : JsonFault → Fields → Additions → Option Members → Next
in_extensible fault fs more None = stop itself
in_extensible fault fs more (Some ms) = by_key (first_other (is_key (field_names fs) (addition_names more)) (keys_of ms))
    (or_else (fields_next fault fs ms) (additions_next fault more ms))

-- ---- a SEQUENCE OF

-- the first element that is rejected with that fault, from the one with number n on
abbrev pub items_next : JsonFault → AsnType → ℕ → Items → Option Next
items_next fault T n json.no_items = None
items_next fault T n (json.item j js) = if is_rejected fault T j then Some (into (element n) T j) else items_next fault T (suc n) js

abbrev pub in_list : JsonFault → AsnType → Option Items → Next
in_list fault T None = stop itself
in_list fault T (Some js) = or_stop (items_next fault T 0 js)

-- ---- a CHOICE

-- the type of the first alternative with the name
abbrev pub alternative_named : Alternatives → List ℕ → Option AsnType
alternative_named no_alternatives name = None
alternative_named (alternative n t T more) name = if bytes_eq n name then Some T else alternative_named more name
alternative_named (later n t T more) name = if bytes_eq n name then Some T else alternative_named more name

abbrev pub by_alternative : JsonFault → List ℕ → Option AsnType → Data → Next
by_alternative fault k None j = if is_name fault then stop (unknown_key k) else stop itself
by_alternative fault k (Some T) j = if is_rejected fault T j then into (key k) T j else stop itself

abbrev pub in_choice : JsonFault → Alternatives → Option (List ℕ × Data) → Next
in_choice fault more None = stop itself
in_choice fault more (Some m) = by_alternative fault m.0 (alternative_named more m.0) m.1

abbrev pub ok_of : {A E : Type 0} → Result A E → Option A
ok_of (Ok x) = Some x
ok_of (Err e) = None

-- What is wrong with JSON that the type rejects with this fault, in the order in which faults count.
abbrev pub next : JsonFault → AsnType → Data → Next
next fault (leaf kind) j = stop itself
next fault (sequence fs) j = in_sequence fault fs (as_object j)
next fault (extensible_sequence fs more) j = in_extensible fault fs more (as_object j)
next fault (sequence_of size T) j = in_list fault T (as_array j)
next fault (choice extensible more) j = in_choice fault more (ok_of (one_member j))

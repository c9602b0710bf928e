-- The value that a `Value` stands for.
use Rattle.std.specs.Prelude.{List, [], ◌∷◌, map, Option, Some, None, option_map, string_bytes}
use Rattle.oer_model.specs.AsnValue.{Unknown, unknown, AsnValue, bool, nothing, int, enum, bit_list, octets, text, oid, seq, items, chosen, foreign, Values, no_values, value, Places, no_places, absent, present}
use Rattle.oer_values.specs.declared.value.Unknown as rust_unknown
use Rattle.oer_values.specs.declared.value.Value.{Value, fold-Value}
use Rattle.oer_values.specs.declared.value.Value.TheOpen.{Value-F}

abbrev pub values_from : List AsnValue → Values
values_from [] = no_values
values_from (v ∷ vs) = value v (values_from vs)

abbrev pub places_from : List (Option AsnValue) → Places
places_from [] = no_places
places_from (None ∷ ps) = absent (places_from ps)
places_from (Some v ∷ ps) = present v (places_from ps)

abbrev pub unknown_of : rust_unknown.Unknown → Unknown
unknown_of u = unknown u.place u.octets.items

-- one level, with each value inside already seen as what it stands for
abbrev pub value_step : Value-F AsnValue → AsnValue
value_step (Value-F.Bool b) = bool b
value_step Value-F.Null = nothing
value_step (Value-F.Int z) = int z
value_step (Value-F.Enum z) = enum z
value_step (Value-F.Bits b) = bit_list b
value_step (Value-F.Octets v) = octets v.items
value_step (Value-F.Text s) = text (string_bytes s)
value_step (Value-F.Oid v) = oid v.items
value_step (Value-F.Seq root added more) = seq (places_from root.items) (places_from added.items) (map unknown_of more.items)
value_step (Value-F.List v) = items (values_from v.items)
value_step (Value-F.Chosen t v) = chosen t v.value
value_step (Value-F.Foreign t v) = foreign t v.items

abbrev pub value_of : Value → AsnValue
value_of = fold-Value AsnValue value_step

abbrev pub values_of : List Value → Values
values_of vs = values_from (map value_of vs)

abbrev pub places_of : List (Option Value) → Places
places_of ps = places_from (map (option_map value_of) ps)

-- the places, and those after them
abbrev pub attached : List (Option Value) → Places → Places
attached [] ps = ps
attached (None ∷ xs) ps = absent (attached xs ps)
attached (Some v ∷ xs) ps = present (value_of v) (attached xs ps)

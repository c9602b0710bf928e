-- How many parts types and values have, and how many octets values hold.
use Rattle.std.specs.Prelude.{ℕ, suc, ◌+◌, List, [], ◌∷◌, length}
use Rattle.oer_model.specs.LeafType.{LeafType, enumerated}
use Rattle.oer_model.specs.LeafValue.{LeafValue, bit_list, octets, oid, text}
use Rattle.oer_model.specs.AsnType.{Additions, Alternatives, AsnType, Fields, addition, alternative, choice, extensible_sequence, field, later, leaf, no_additions, no_alternatives, no_fields, sequence, sequence_of}
use Rattle.oer_model.specs.AsnValue.{AsnValue, Places, Unknown, Values, absent, chosen, foreign, items, leaf_value, no_places, no_values, present, seq, unknown, value}
use Rattle.oer_model.specs.Bits.{octets_for}

-- the type, and each item of an enumeration
abbrev pub leaf_nodes : LeafType → ℕ
leaf_nodes (enumerated numbers extensible) = suc (length numbers)
leaf_nodes kind = 1

-- each type in it, itself included, and each item of an enumeration
abbrev mutual
  pub type_nodes : AsnType → ℕ
  type_nodes (leaf kind) = leaf_nodes kind
  type_nodes (sequence fs) = suc (fields_nodes fs)
  type_nodes (extensible_sequence fs more) = suc (fields_nodes fs + additions_nodes more)
  type_nodes (sequence_of s T) = suc (type_nodes T)
  type_nodes (choice extensible more) = suc (alternatives_nodes more)

  pub fields_nodes : Fields → ℕ
  fields_nodes no_fields = 0
  fields_nodes (field name need T fs) = type_nodes T + fields_nodes fs

  pub additions_nodes : Additions → ℕ
  additions_nodes no_additions = 0
  additions_nodes (addition name T more) = type_nodes T + additions_nodes more

  pub alternatives_nodes : Alternatives → ℕ
  alternatives_nodes no_alternatives = 0
  alternatives_nodes (alternative name t T more) = type_nodes T + alternatives_nodes more
  alternatives_nodes (later name t T more) = type_nodes T + alternatives_nodes more

-- each value in it, itself included, each absent place and each unknown part
abbrev mutual
  pub nodes : AsnValue → ℕ
  nodes (leaf_value v) = 1
  nodes (seq root added us) = suc (places_nodes root + places_nodes added + length us)
  nodes (items vs) = suc (values_nodes vs)
  nodes (chosen t v) = suc (nodes v)
  nodes (foreign t w) = 2

  pub values_nodes : Values → ℕ
  values_nodes no_values = 0
  values_nodes (value v vs) = nodes v + values_nodes vs

  pub places_nodes : Places → ℕ
  places_nodes no_places = 0
  places_nodes (absent ps) = suc (places_nodes ps)
  places_nodes (present v ps) = nodes v + places_nodes ps

-- the octets of unknown additions
abbrev pub contents : List Unknown → ℕ
contents [] = 0
contents (unknown place w ∷ us) = length w + contents us

-- the octets of a string, of bits or of a text, and the arcs
abbrev pub leaf_payload : LeafValue → ℕ
leaf_payload (bit_list s) = octets_for (length s)
leaf_payload (text w) = length w
leaf_payload (oid arcs) = length arcs
leaf_payload (octets w) = length w
leaf_payload v = 0

-- the octets of strings, bits, texts and unknown parts, and the arcs
abbrev mutual
  pub payload : AsnValue → ℕ
  payload (leaf_value v) = leaf_payload v
  payload (seq root added us) = places_payload root + places_payload added + contents us
  payload (items vs) = values_payload vs
  payload (chosen t v) = payload v
  payload (foreign t w) = length w

  pub values_payload : Values → ℕ
  values_payload no_values = 0
  values_payload (value v vs) = payload v + values_payload vs

  pub places_payload : Places → ℕ
  places_payload no_places = 0
  places_payload (absent ps) = places_payload ps
  places_payload (present v ps) = payload v + places_payload ps

-- Items of an ENUMERATED, by name and by number.
use Rattle.std.specs.Prelude.{ℕ, ℤ, List, [], ◌∷◌, Option, Some, None, if◌then◌else◌}
use Rattle.std.specs.Ordering.{int_eq}
use Rattle.std.specs.Str.{bytes_eq}
use Rattle.oer_model.specs.AsnType.{AsnType, leaf}
use Rattle.oer_model.specs.LeafType.{LeafType, NamedNumber, enumerated}

abbrev pub leaf_items : LeafType → List NamedNumber
leaf_items (enumerated items extensible) = items
leaf_items kind = []

-- the items of an ENUMERATED; other types have none
abbrev pub items_of : AsnType → List NamedNumber
items_of (leaf kind) = leaf_items kind
items_of T = []

-- the number of the first item with the name
abbrev pub number_named : List NamedNumber → List ℕ → Option ℤ
number_named [] w = None
number_named (i ∷ is) w = if bytes_eq i.name w then Some i.number else number_named is w

-- the name of the first item with the number
abbrev pub name_of : List NamedNumber → ℤ → Option (List ℕ)
name_of [] z = None
name_of (i ∷ is) z = if int_eq i.number z then Some i.name else name_of is z

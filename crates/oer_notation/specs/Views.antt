-- What the types of the code stand for.
use Rattle.std.specs.Prelude.{◌≡◌, ◌++◌, ◌∷◌, [], ℕ, suc, List, length, map, string_bytes}
use Rattle.std.specs.Arc.{arc_value}
use Rattle.std.specs.declared.sync.Arc.{Arc}
use Rattle.oer_model.specs.AsnType.{AsnType}
use Rattle.oer_values.specs.ShapeView.{named_number, seen_addition, seen_alternative, seen_field}
use Rattle.oer_notation.specs.Reading.{Known, Start, nothing, of_word, of_name, NamedItems, Components, Choices}
use Rattle.oer_notation.specs.Places.{names_in}
use Rattle.oer_types.specs.Schema.{the_type}
use Rattle.oer_types.specs.declared.schema.Schema.{Schema}
use Rattle.oer_notation.specs.declared.known.Definitions.{Definitions}
use Rattle.oer_notation.specs.declared.names.Names.{Names}
use Rattle.oer_notation.specs.declared.types.Types.{Types}
use Rattle.oer_notation.specs.declared.parse.Body as raw_body
use Rattle.oer_notation.specs.declared.parse.Alternatives as raw_alternatives
use Rattle.oer_notation.specs.declared.parse.Items as raw_items
use Rattle.oer_notation.specs.declared.parse.Start as raw
use Rattle.oer_notation.specs.declared.parse.Start.TheVariants.{Nothing, Word, Name}

-- a type that several definitions may share
abbrev pub shared_type : {Z : Type 0} → Arc Schema Z → AsnType
shared_type s = the_type (arc_value s)

abbrev pub names_of : Names → List (List ℕ)
names_of n = names_in n.places ++ map string_bytes n.others.items

-- the Names with their types, as far as there are both
abbrev pub together : {Z : Type 0} → List (List ℕ) → List (Arc Schema Z) → List Known
together [] ss = []
together (w ∷ ws) [] = []
together (w ∷ ws) (s ∷ ss) = record { name = w; type = shared_type s } ∷ together ws ss

unfoldable pub known_by : Definitions → List Known
known_by d = together (names_of d.names) d.types.items

abbrev pub HasAllTypes : Definitions → Type 0
HasAllTypes d = length (names_of d.names) ≡ length d.types.items

-- only the last Name has no type yet
abbrev pub LacksOneType : Definitions → Type 0
LacksOneType d = length (names_of d.names) ≡ suc (length d.types.items)

abbrev pub name_past : {Z : Type 0} → List (List ℕ) → List (Arc Schema Z) → List ℕ
name_past [] ss = []
name_past (w ∷ ws) [] = w
name_past (w ∷ ws) (s ∷ ss) = name_past ws ss

-- the first Name that has no type yet
abbrev pub next_name : Definitions → List ℕ
next_name d = name_past (names_of d.names) d.types.items

-- the definition by which it has this type
abbrev pub given : {Z : Type 0} → Definitions → Arc Schema Z → Known
given d s = record { name = next_name d; type = shared_type s }

abbrev pub knowns : Types → List Known
knowns t = known_by t.definitions

abbrev pub start_of : raw.Start → Start
start_of Nothing = nothing
start_of (Word k) = of_word k
start_of (Name w) = of_name w.now

abbrev pub named : raw_items.Items → NamedItems
named i = (map named_number i.items.items, i.extensible)

abbrev pub components : raw_body.Body → Components
components b = record { root = map seen_field b.root.items; added = map seen_addition b.added.items; extensible = b.extensible }

abbrev pub choices : raw_alternatives.Alternatives → Choices
choices a = record { root = map seen_alternative a.root.items; added = map seen_alternative a.added.items; extensible = a.extensible }

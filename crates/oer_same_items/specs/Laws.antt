-- Laws of the items of an ENUMERATED, in the notation and in modules.
use Rattle.std.specs.Prelude.{◌≡◌, ℕ, ℤ, List, map, Bool, true, false, Some, is_some, Ok}
use Rattle.oer_lexer.specs.Token.{Token}
use Rattle.oer_model.specs.AsnType.{NamedNumber, leaf}
use Rattle.oer_model.specs.AsnValue.{enum}
use Rattle.oer_model.specs.LeafType.{enumerated}
use Rattle.oer_module_defaults.specs.Governors.{Governor}
use Rattle.oer_module_defaults.specs.Items.{has_item}
use Rattle.oer_module_defaults.specs.Leaves.{enumerated_at as item_at}
use Rattle.oer_module_leaves.specs.Leaves.{enumerated_at, is_implied}
use Rattle.oer_module_leaves.specs.Numbered.{NumberedItem, numbered_at}
use Rattle.oer_module_lexer.specs.Token.{Spot}
use Rattle.oer_module_names.specs.declared.error.Place.{Place}
use Rattle.oer_module_syntax.specs.Tree.{Module, plain}
use Rattle.oer_module_syntax.specs.declared.word.Builtin.TheVariants.{Enumerated}
use Rattle.oer_module_terms.specs.Trees.{amount, named}
use Rattle.oer_module_text.specs.Errors.{place_in}
use Rattle.oer_module_text.specs.Room.{Room}
use Rattle.oer_notation.specs.Grammar.{IsItemNamed, IsLeaf}
use Rattle.oer_same_items.specs.Ordinary.{AreOrdinary}
use Rattle.oer_same_items.specs.Told.{Tells}
use Rattle.oer_same_trees.specs.Says.{Keeps}
use Rattle.oer_value_notation.specs.Leaves.{listed}

-- an item without its place
abbrev pub as_named : NumberedItem → NamedNumber
as_named i = record { name = i.name; number = i.number }

-- the tokens are these items in braces, with a marker or without
abbrev pub IsEnumeration : List NamedNumber → Bool → List Token → Type 0
IsEnumeration items marker ts = IsLeaf (listed enumerated) (enumerated items marker) ts

-- The items of an ENUMERATED have the same names and numbers in a module, in the same order, and there is a marker in both or in neither.
abbrev pub SameItems : Type 0
SameItems = (ordinary : Bool) (items : List NamedNumber) (marker : Bool) (ts : List Token) (ss : List Spot) → IsEnumeration items marker ts
    → Keeps ts ss → (ms : List Module) (p : Place) → (ordinary ≡ true → AreOrdinary ms p ss items)
    → Tells ordinary (λ e. (map as_named e.items ≡ items) × (is_some e.marker ≡ marker)) (numbered_at ms p ss)

-- An ENUMERATED is the same type in a module whose header doesn't imply markers.
abbrev pub SameEnumerated : Type 0
SameEnumerated = (ordinary : Bool) (items : List NamedNumber) (marker : Bool) (ts : List Token) (ss : List Spot)
    → IsEnumeration items marker ts → Keeps ts ss → (ms : List Module) (p : Place) → (ordinary ≡ true → AreOrdinary ms p ss items)
    → (r : Room) → is_implied ms p.«module» ≡ false
    → Tells ordinary (λ x. x.0 ≡ leaf (enumerated items marker)) (enumerated_at ms p ss r)

-- The name of an item is told by this ENUMERATED itself, in each module.
abbrev pub HasItem : Type 0
HasItem = (items : List NamedNumber) (marker : Bool) (ts : List Token) (ss : List Spot) → IsEnumeration items marker ts → Keeps ts ss
    → (w : List ℕ) (z : ℤ) → IsItemNamed w z items → (m : ℕ) → has_item m ss w ≡ Ok true

-- The name of an item stands for the same value in a module, where both types that govern it are this ENUMERATED.
abbrev pub SameItem : Type 0
SameItem = (ordinary : Bool) (items : List NamedNumber) (marker : Bool) (ts : List Token) → IsEnumeration items marker ts
    → (w : List ℕ) (z : ℤ) → IsItemNamed w z items → (g h : Governor) (at by : ℕ) (ss us cs ds : List Spot)
    → g.type ≡ plain at Enumerated ss cs → Keeps ts ss → h.type ≡ plain by Enumerated us ds → Keeps ts us
    → (ms : List Module) → (ordinary ≡ true → AreOrdinary ms (place_in g.«module» at) ss items)
    → (ordinary ≡ true → AreOrdinary ms (place_in h.«module» by) us items) → (p : Place) (steps : List Spot) (r : Room)
    → Tells ordinary (λ x. x.0 ≡ enum z) (item_at ms g h p (Some (amount (named w steps))) r)

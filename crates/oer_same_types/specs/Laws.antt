-- The types of a module whose body is in the notation.
use Rattle.std.specs.Prelude.{◌≡◌, ◌≤◌, ℕ, List, [], Bool, true, None}
use Rattle.oer_model.specs.AsnType.{AsnType}
use Rattle.oer_model.specs.FaultTest.{first_fault}
use Rattle.oer_model.specs.WellFormed.{IsWellFormed}
use Rattle.oer_module_places.specs.Rising.{Rise}
use Rattle.oer_module_syntax.specs.Tree.{Module, Tree}
use Rattle.oer_module_text.specs.Room.{Room}
use Rattle.oer_module_types.specs.Types.{type_at}
use Rattle.oer_module_values.specs.Types.{type_in}
use Rattle.oer_notation.specs.Reading.{Known}
use Rattle.oer_same_items.specs.Told.{Tells}
use Rattle.oer_same_names.specs.Home.{IsFront, IsHome}
use Rattle.oer_same_names.specs.Meant.{IsTreeBehind}
use Rattle.oer_same_trees.specs.Says.{Says}
use Rattle.oer_same_types.specs.Ordinary.{IsOrdinary}
use Rattle.oer_same_types.specs.Unsized.{unsized}

-- The tree of a definition is given the type that it says, without the sizes of its lists, or is rejected for a limit. Nothing in it is
-- nested too deep, since it says its type by the definitions before it alone; that takes places that rise.
abbrev pub SameType : Type 0
SameType = (ordinary : Bool) (ms : List Module) (ks known : List Known) (T : AsnType) (t : Tree) (nesting levels : ℕ) (r : Room)
    (home : IsHome ms ks) → Rise 0 home.home.assignments → IsFront known ks → IsTreeBehind home.home.assignments known t → Says known T t
    → 1 ≤ nesting → (ordinary ≡ true → IsOrdinary ms ks home.home.assignments T)
    → Tells ordinary (λ x. x.0 ≡ unsized T) (type_at ms nesting levels [] (type_in 0 t) r)

-- A well-formed type has no fault without the sizes of its lists.
abbrev pub UnsizedIsSound : Type 0
UnsizedIsSound = (T : AsnType) → IsWellFormed T → first_fault (unsized T) ≡ None

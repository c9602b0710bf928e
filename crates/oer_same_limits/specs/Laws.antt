-- The parts and levels that the reader of modules takes for types of the notation.
use Rattle.std.specs.Prelude.{◌≡◌, ℕ, ◌+◌, ◌*◌, ◌≤◌, List, [], length, Bool, true}
use Rattle.oer_model.specs.AsnType.{AsnType}
use Rattle.oer_model.specs.Limits.{max_parts}
use Rattle.oer_model.specs.Nodes.{type_nodes}
use Rattle.oer_model.specs.WellFormed.{depth}
use Rattle.oer_model.specs.Widths.{HasWidths}
use Rattle.oer_module_places.specs.Rising.{Rise}
use Rattle.oer_module_syntax.specs.Tree.{Module, Tree}
use Rattle.oer_module_text.specs.Room.{Room}
use Rattle.oer_module_types.specs.Types.{type_at}
use Rattle.oer_module_values.specs.Types.{type_in}
use Rattle.oer_notation.specs.Reading.{Known}
use Rattle.oer_same_names.specs.Home.{IsFront, IsHome}
use Rattle.oer_same_names.specs.Meant.{IsTreeBehind}
use Rattle.oer_same_trees.specs.Says.{Says}
use Rattle.oer_same_limits.specs.Short.{AllShort}
use Rattle.oer_same_limits.specs.Takes.{Takes}

-- Where a type has no more levels than may nest, and no more parts than are left, of 4,096 at most, the tree of its definition takes just
-- the parts of the type, or is rejected for another reason (`IsOther`). Where definitions are short, there has to be room for 256 octets
-- of text for each part that is left.
abbrev pub TakesItsParts : Type 0
TakesItsParts = (short : Bool) (ms : List Module) (ks known : List Known) (T : AsnType) (t : Tree) (nesting levels : ℕ) (r : Room) (home : IsHome ms ks)
    → Rise 0 home.home.assignments → IsFront known ks → IsTreeBehind home.home.assignments known t → Says known T t → 1 ≤ nesting
    → depth T ≤ levels → type_nodes T ≤ r.parts → r.parts ≤ max_parts
    → (short ≡ true → AllShort home.home.assignments × HasWidths T × (length r.text + 256 * r.parts ≤ 1048576))
    → Takes short (type_nodes T) r (type_at ms nesting levels [] (type_in 0 t) r)

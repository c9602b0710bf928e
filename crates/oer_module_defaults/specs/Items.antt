-- The items of an ENUMERATED and their numbers (X.680, 20), and the named bits of a BIT STRING (22.1).
use Rattle.std.specs.Prelude.{ℕ, ℤ, List, [], ◌∷◌, Bool, true, false, ◌||◌, Option, Some, None, Ok, is_some}
use Rattle.std.specs.Prelude.{if◌then◌else◌}
use Rattle.std.specs.Ordering.{int_eq}
use Rattle.std.specs.Str.{bytes_eq}
use Rattle.oer_module_leaves.specs.Numbered.{NumberedItem, numbered_items}
use Rattle.oer_module_leaves.specs.Shapes.{in_64_bits}
use Rattle.oer_module_lexer.specs.Token.{Spot}
use Rattle.oer_module_names.specs.declared.error.Place.{Place}
use Rattle.oer_module_syntax.specs.Tree.{Module}
use Rattle.oer_module_terms.specs.Items.{enumeration_at, items_at}
use Rattle.oer_module_terms.specs.Trees.{Item, Enumeration}
use Rattle.oer_module_terms.specs.declared.item.Numbering.TheVariants.{Unsigned}
use Rattle.oer_module_text.specs.Errors.{Read, error, in_module, no_such_value, ◌>>=◌}
use Rattle.oer_module_values.specs.Kept.{kept}
use Rattle.oer_module_values.specs.Looks.{Path, own}
use Rattle.oer_module_values.specs.Numbers.{item_named, more_items}
use Rattle.oer_module_values.specs.Types.{type_in}
use Rattle.oer_module_defaults.specs.Governors.{Governor}
use Rattle.oer_module_defaults.specs.declared.governor.Kind.{Kind}
use Rattle.oer_module_defaults.specs.declared.governor.Kind.TheVariants.{Integer, Enumerated}

abbrev pub is_among : List ℕ → Enumeration → Bool
is_among w e = is_some (item_named w e.root) || is_some (item_named w (more_items e.more))

unfoldable pub has_item : ℕ → List Spot → List ℕ → Read Bool
has_item m ts w = in_module m (enumeration_at (kept ts)) >>= λ e. Ok (is_among w e.0)

abbrev pub is_own_of : Kind → ℕ → List Spot → List ℕ → Path → Read Bool
is_own_of Integer m ts w path = Ok true
is_own_of Enumerated m ts w own = has_item m ts w
is_own_of _ m ts w path = Ok false

-- A name is told by the type itself: the item of an ENUMERATED, and each of an INTEGER, whose numbers tell it.
abbrev pub is_own : Governor → List ℕ → Path → Read Bool
is_own g w path = is_own_of g.kind g.«module» g.items w path

-- the named bits of a BIT STRING
unfoldable pub bits_of : Governor → Read (List Item)
bits_of g = in_module g.«module» (items_at Unsigned (kept g.items)) >>= λ is. Ok is.0

-- ---- the numbers of items

-- of the first item of that name
abbrev pub number_named : List ℕ → List NumberedItem → Option ℤ
number_named w [] = None
number_named w (i ∷ is) = if bytes_eq i.name w then Some i.number else number_named w is

abbrev pub number_by : Place → Option ℤ → Read ℤ
number_by p None = error p no_such_value
number_by p (Some z) = in_64_bits p z

-- of the item of that name, of an ENUMERATED; the name stands at a place
unfoldable pub item_number : List Module → Governor → Place → List ℕ → Read ℤ
item_number ms g p w = numbered_items ms (type_in g.«module» g.type) >>= λ is. number_by p (number_named w is)

abbrev pub agreed : Place → ℤ → ℤ → Read ℤ
agreed p y z = if int_eq y z then Ok z else error p no_such_value

-- The same of an item that the second type governs, as a value of the first: each name is one of the type that governs it
-- (20.8), and the first has to give it the same number, else the types aren't compatible.
unfoldable pub number_in_both : List Module → Governor → Governor → Place → List ℕ → Read ℤ
number_in_both ms g h p w = item_number ms h p w >>= λ y. item_number ms g p w >>= agreed p y

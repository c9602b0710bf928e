-- The law of values after DEFAULT, in the notation and in modules.
use Rattle.std.specs.Prelude.{◌≡◌, List, Bool, true, Ok}
use Rattle.oer_lexer.specs.Token.{Token}
use Rattle.oer_model.specs.AsnType.{AsnType}
use Rattle.oer_model.specs.AsnValue.{AsnValue}
use Rattle.oer_module_defaults.specs.Defaults.{default_at}
use Rattle.oer_module_lexer.specs.Token.{Spot}
use Rattle.oer_module_syntax.specs.Tree.{Module, Tree}
use Rattle.oer_module_text.specs.Room.{Room}
use Rattle.oer_module_values.specs.Types.{Meaning, meaning, type_in}
use Rattle.oer_notation.specs.Grammar.{IsValue}
use Rattle.oer_notation.specs.Reading.{Known}
use Rattle.oer_same_defaults.specs.Tame.{AreTame, HasOrdinaryItems}
use Rattle.oer_same_items.specs.Told.{Tells}
use Rattle.oer_same_names.specs.Meant.{IsMeant}
use Rattle.oer_same_trees.specs.Says.{Keeps}

-- What the tokens of a value stand for in a module is this value, where the tree of its type stands for a tree that says the type; or
-- it is rejected for a limit. Ordinary are tame tokens, and names of ordinary items.
abbrev pub SameDefault : Type 0
SameDefault = (ordinary : Bool) (ms : List Module) (ks : List Known) (T : AsnType) (t : Tree) (m : Meaning)
    → meaning ms (type_in 0 t) ≡ Ok m → IsMeant ks T m
    → (v : AsnValue) (ts : List Token) (ss : List Spot) (r : Room) → IsValue T v ts → Keeps ts ss
    → (ordinary ≡ true → HasOrdinaryItems ms T m.of) → (ordinary ≡ true → AreTame ss)
    → Tells ordinary (λ x. x.0 ≡ v) (default_at ms (type_in 0 t) 0 ss r)

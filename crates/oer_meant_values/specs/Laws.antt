-- What is found for a value after DEFAULT is the value that X.680 gives it, and it has no other.
use Rattle.std.specs.Prelude.{◌≡◌, ℕ, List, Ok}
use Rattle.oer_model.specs.AsnValue.{AsnValue}
use Rattle.oer_module_defaults.specs.Defaults.{default_at}
use Rattle.oer_module_lexer.specs.Token.{Spot}
use Rattle.oer_module_syntax.specs.Tree.{Module, Tree}
use Rattle.oer_module_text.specs.Room.{Room}
use Rattle.oer_module_values.specs.Types.{TypeIn}
use Rattle.oer_meant_values.specs.Values.{AreValue}

-- The value that is found for tokens in a module, of a type, is the one that they are.
abbrev pub DefaultsAreSound : Type 0
DefaultsAreSound = (ms : List Module) (t : TypeIn) (m : ℕ) (ts : List Spot) (r s : Room) (x : AsnValue) → default_at ms t m ts r ≡ Ok (x, s)
    → AreValue ms t.«module» t.type m ts x

-- Tokens in a module are one value of a type in a module.
abbrev pub ValuesAreSole : Type 0
ValuesAreSole = (ms : List Module) (m : ℕ) (t : Tree) (n : ℕ) (ts : List Spot) (x y : AsnValue)
    → AreValue ms m t n ts x → AreValue ms m t n ts y → x ≡ y

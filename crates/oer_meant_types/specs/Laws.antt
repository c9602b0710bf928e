-- What is found for a type of a module is the type that it is by X.680, and it is no other.
use Rattle.std.specs.Prelude.{◌≡◌, ℕ, List, [], Ok}
use Rattle.oer_model.specs.AsnType.{AsnType}
use Rattle.oer_module_names.specs.declared.error.Place.{Place}
use Rattle.oer_module_syntax.specs.Tree.{Module, Tree}
use Rattle.oer_module_types.specs.Types.{typed}
use Rattle.oer_module_values.specs.Types.{TypeIn}
use Rattle.oer_meant_types.specs.Types.{IsType}

-- The type that is found for one in a module, written out to a nesting, is the one that it is.
abbrev pub TypesAreSound : Type 0
TypesAreSound = (ms : List Module) (nesting : ℕ) (t : TypeIn) (T : AsnType) (text : List ℕ) → typed ms nesting t ≡ Ok (T, text)
    → IsType ms nesting [] t.«module» t.type T

-- A type in a module is one type.
abbrev pub TypesAreSole : Type 0
TypesAreSole = (ms : List Module) (nesting : ℕ) (path : List Place) (m : ℕ) (t : Tree) (T U : AsnType) → IsType ms nesting path m t T
    → IsType ms nesting path m t U → T ≡ U

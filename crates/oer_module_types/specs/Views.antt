-- What the types of the code stand for.
use Rattle.std.specs.Prelude.{ℕ, List, Bool, string_bytes}
use Rattle.oer_model.specs.AsnType.{AsnType}
use Rattle.oer_module_names.specs.Views.{modules_in}
use Rattle.oer_module_names.specs.declared.error.Place.{Place}
use Rattle.oer_module_syntax.specs.Tree.{Module, Tree}
use Rattle.oer_module_text.specs.Errors.{Read}
use Rattle.oer_module_text.specs.Room.{Room}
use Rattle.oer_module_values.specs.Types.{TypeIn}
use Rattle.oer_values.specs.ShapeView.{type_of}
use Rattle.oer_module_types.specs.Gathered.{Gathered}
use Rattle.oer_module_types.specs.Types.{roots_at, type_at}
use Rattle.oer_module_types.specs.declared.types.Scope.{Scope}
use Rattle.oer_module_types.specs.declared.types.Typed.{Typed}

abbrev pub modules_of : Scope → List Module
modules_of s = modules_in s.names.now

-- each type in which so many levels may nest, and its text
abbrev pub types_of : Scope → ℕ → List Place → TypeIn → Room → Read (AsnType × Room)
types_of s levels = type_at (modules_of s) s.nesting levels

-- and each COMPONENTS OF
abbrev pub roots_of : Scope → ℕ → List Place → Bool → Place → Tree → Gathered → Room → Read (Bool × Gathered × Room)
roots_of s levels = roots_at (modules_of s) s.nesting levels

abbrev pub typed_of : Typed → AsnType × List ℕ
typed_of t = (type_of t.shape, string_bytes t.text)

-- The type that is found for a Name in texts of modules is well-formed, and the one that it has by X.680. It has no other.
use Rattle.std.specs.Prelude.{◌≡◌, ◌≤◌, ◌⊎◌, ℕ, List, [], map, true, false, Some, None, slice_get, Ok}
use Rattle.std.specs.List.{after_first, before_first}
use Rattle.oer_model.specs.AsnType.{AsnType}
use Rattle.oer_model.specs.FaultTest.{first_fault}
use Rattle.oer_module_lexer.specs.Lexing.{lex}
use Rattle.oer_module_names.specs.Tables.{assignments_in, module_names}
use Rattle.oer_module_names.specs.Standing.{IsOnlyAssignment, IsOnlyAt, StandsFor}
use Rattle.oer_module_names.specs.declared.error.Found.{Found}
use Rattle.oer_module_syntax.specs.Tree.{Assignment, Module, Tree, type_body}
use Rattle.oer_modules.specs.Asked.{is_point, is_qualified}
use Rattle.oer_modules.specs.Schemas.{schema_of_modules}
use Rattle.oer_modules.specs.Texts.{Library, no_modules, read_each}
use Rattle.oer_meant_types.specs.Types.{IsType}

-- A Name alone is the one assignment of it in all modules; `Module.Name` is what the Name stands for in the one module of that name.
pub data Asks (ms : List Module) (w : List ℕ) (x : Found) : Type 0 where
  alone : is_qualified w ≡ false → IsOnlyAssignment ms w x → Asks ms w x
  within : (k : ℕ) → is_qualified w ≡ true → IsOnlyAt (module_names ms) k (before_first is_point w)
      → StandsFor ms (after_first is_point w) x k → Asks ms w x

-- A Name is assigned a type without parameters, which is T where types stand in themselves so often.
pub record IsTypeOf (ms : List Module) (w : List ℕ) (nesting : ℕ) (T : AsnType) : Type 0 where
  pub found : Found
  pub assignment : Assignment
  pub tree : Tree
  pub asks : Asks ms w found
  pub is : slice_get (assignments_in ms found.«module») found.assignment ≡ Some assignment
  pub without : assignment.parameters ≡ []
  pub body : assignment.body ≡ type_body tree
  pub means : IsType ms nesting [] found.«module» tree T

-- Texts are read as modules, in which a Name has the type T, and that is well-formed. With no nesting asked for, it is one from 1 to 8.
pub record HaveType (texts : List (List ℕ)) (w : List ℕ) (asked : ℕ) (T : AsnType) : Type 0 where
  pub library : Library
  pub read : read_each 0 (map lex texts) no_modules ≡ Ok library
  pub nesting : ℕ
  pub as_asked : (asked ≡ nesting) ⊎ ((asked ≡ 0) × (1 ≤ nesting) × (nesting ≤ 8))
  pub is : IsTypeOf library.modules w nesting T
  pub sound : first_fault T ≡ None

abbrev pub NamesAreMeant : Type 0
NamesAreMeant = (texts : List (List ℕ)) (w : List ℕ) (n : ℕ) (T : AsnType) → schema_of_modules texts w n ≡ Ok T → HaveType texts w n T

-- A Name has one type at a nesting.
abbrev pub NamesAreSole : Type 0
NamesAreSole = (ms : List Module) (w : List ℕ) (nesting : ℕ) (T U : AsnType) → IsTypeOf ms w nesting T → IsTypeOf ms w nesting U → T ≡ U

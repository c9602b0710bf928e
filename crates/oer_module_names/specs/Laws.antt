-- What is found is what Names stand for, and all of it.
use Rattle.std.specs.Prelude.{◌≡◌, ◌↔◌, ℕ, List, Ok}
use Rattle.oer_module_syntax.specs.Tree.{Import, Module}
use Rattle.oer_module_names.specs.Finding.{find, find_anywhere, find_in, find_module}
use Rattle.oer_module_names.specs.Standing.{Has, IsAmong, IsAt, IsImportedFrom, IsOnlyAssignment, IsOnlyAt, StandsFor, StandsForIn}
use Rattle.oer_module_names.specs.Tables.{assignment_names, module_names}
use Rattle.oer_module_names.specs.declared.error.Found.{Found}

abbrev pub FindsWhatStands : Type 0
FindsWhatStands = (ms : List Module) (w : List ℕ) (k : ℕ) (x : Found) → (find ms k w ≡ Ok x) ↔ StandsFor ms w x k

abbrev pub StandsForOne : Type 0
StandsForOne = (ms : List Module) (w : List ℕ) (k : ℕ) (x y : Found) → StandsFor ms w x k → StandsFor ms w y k → x ≡ y

abbrev pub FindsWhatStandsIn : Type 0
FindsWhatStandsIn = (ms : List Module) (f w : List ℕ) (k : ℕ) (x : Found) → (find_in ms k f w ≡ Ok x) ↔ StandsForIn ms f w x k

abbrev pub FindsTheOnlyAssignment : Type 0
FindsTheOnlyAssignment = (ms : List Module) (w : List ℕ) (x : Found) → (find_anywhere ms w ≡ Ok x) ↔ IsOnlyAssignment ms w x

abbrev pub FindsTheOnlyModule : Type 0
FindsTheOnlyModule = (ms : List Module) (f : List ℕ) (k : ℕ) → (find_module ms f ≡ Ok k) ↔ IsOnlyAt (module_names ms) k f

-- A Name that a module imports, and doesn't assign itself: what is found for it stands in a module that fits each import
-- which has the Name.
abbrev pub FindsTheVersion : Type 0
FindsTheVersion =
    (ms : List Module) (w : List ℕ) (k : ℕ) (x : Found) (m : Module) (i : Import) → find ms k w ≡ Ok x → IsAt ms k m → ¬ IsAmong (assignment_names m.assignments) w
    → IsAmong m.imports i → Has i w → IsImportedFrom ms w x i

-- What a Name stands for, as a relation (X.680, 13.12 to 13.17).
use Rattle.std.specs.Prelude.{◌≡◌, ℕ, List, slice_get, Some, Ok}
use Rattle.oer_module_syntax.specs.Tree.{Exports, Import, Module, all, these}
use Rattle.oer_module_names.specs.Finding.{find}
use Rattle.oer_module_names.specs.Tables.{assignment_names, module_names, source_names, symbol_names}
use Rattle.oer_module_names.specs.Versions.{Fits}
use Rattle.oer_module_names.specs.declared.error.Found.{Found}

-- x stands at i
abbrev pub IsAt : {A : Type 0} → List A → ℕ → A → Type 0
IsAt xs i x = slice_get xs i ≡ Some x

abbrev pub IsAmong : {A : Type 0} → List A → A → Type 0
IsAmong xs x = (i : ℕ) × IsAt xs i x

-- x stands at i and nowhere else
pub record IsOnlyAt {A : Type 0} (xs : List A) (i : ℕ) (x : A) : Type 0 where
  pub here : IsAt xs i x
  pub only : (j : ℕ) → IsAt xs j x → j ≡ i

abbrev pub Has : Import → List ℕ → Type 0
Has i w = IsAmong (symbol_names i.symbols) w

-- module m imports w from the modules named f, and from no other
pub record ImportsFrom (m : Module) (w f : List ℕ) : Type 0 where
  pub some : (i : Import) × IsAmong m.imports i × Has i w × (i.from ≡ f)
  pub only : (i : Import) → IsAmong m.imports i → Has i w → i.from ≡ f

abbrev pub MayLeave : Exports → List ℕ → Type 0
MayLeave all w = Unit {0}
MayLeave (these ss) w = IsAmong (symbol_names ss) w

-- module n is one of the versions that each import of module m from the modules named f asks for
abbrev pub IsVersion : Module → List ℕ → Module → Type 0
IsVersion m f n = (i : Import) → IsAmong m.imports i → i.from ≡ f → Fits i n

-- Assignment x is what w stands for in a module of ms: the one assignment of that Name in the module; or, where the
-- module assigns none, what w stands for in the one module from which it imports w, if that module
-- is of the version that is asked for, and exports w.
pub data StandsFor (ms : List Module) (w : List ℕ) (x : Found) : ℕ → Type 0 where
  own : {m : Module} → IsAt ms x.«module» m → IsOnlyAt (assignment_names m.assignments) x.assignment w → StandsFor ms w x x.«module»
  imported : {k j : ℕ} {m n : Module} {f : List ℕ} → IsAt ms k m → ¬ IsAmong (assignment_names m.assignments) w → ImportsFrom m w f
      → IsOnlyAt (module_names ms) j f → IsAt ms j n → IsVersion m f n → MayLeave n.exports w → StandsFor ms w x j → StandsFor ms w x k

-- The same of f.w (14.1): f is the module itself, or the one module of that name, from which something is imported.
pub data StandsForIn (ms : List Module) (f w : List ℕ) (x : Found) : ℕ → Type 0 where
  itself : {k : ℕ} {m : Module} → IsAt ms k m → f ≡ m.name → StandsFor ms w x k → StandsForIn ms f w x k
  other : {k j : ℕ} {m n : Module} → IsAt ms k m → ¬ (f ≡ m.name) → IsAmong (source_names m.imports) f
      → IsOnlyAt (module_names ms) j f → IsAt ms j n → IsVersion m f n → MayLeave n.exports w → StandsFor ms w x j → StandsForIn ms f w x k

-- x assigns w
abbrev pub Assigns : List Module → Found → List ℕ → Type 0
Assigns ms x w = (m : Module) × IsAt ms x.«module» m × IsAt (assignment_names m.assignments) x.assignment w

-- x, and no other of all assignments, assigns w
pub record IsOnlyAssignment (ms : List Module) (w : List ℕ) (x : Found) : Type 0 where
  pub here : Assigns ms x w
  pub only : (y : Found) → Assigns ms y w → y ≡ x

-- What w stands for is found in the one module that import i names, which fits that import.
pub record IsImportedFrom (ms : List Module) (w : List ℕ) (x : Found) (i : Import) : Type 0 where
  pub place : ℕ
  pub this : Module
  pub only : IsOnlyAt (module_names ms) place i.from
  pub at : IsAt ms place this
  pub fit : Fits i this
  pub found : find ms place w ≡ Ok x

-- What modules assign, import and export (X.680, 13).
use Rattle.std.specs.Prelude.{ℕ, suc, List, [], ◌∷◌, ◌++◌, map, Bool, true, false, not, Option, Some, None, slice_get}
use Rattle.std.specs.Option.{option_map_or}
use Rattle.oer_module_syntax.specs.Tree.{Assignment, Exports, Import, Module, Symbol, all, these}
use Rattle.oer_module_names.specs.Identifiers.{arcs}
use Rattle.oer_module_names.specs.Sole.{Entry, each, first_of, is_there, numbered, sole}
use Rattle.oer_module_names.specs.Versions.{fits}
use Rattle.oer_module_names.specs.declared.index.Sole.{Sole}
use Rattle.oer_module_names.specs.declared.index.Sole.TheVariants.{Nothing, One, Two}

abbrev pub assignment_names : List Assignment → List (List ℕ)
assignment_names xs = map (λ a. a.name) xs

abbrev pub source_names : List Import → List (List ℕ)
source_names is = map (λ i. i.from) is

abbrev pub symbol_names : List Symbol → List (List ℕ)
symbol_names ss = map (λ s. s.name) ss

abbrev pub module_names : List Module → List (List ℕ)
module_names ms = map (λ m. m.name) ms

-- ---- one module

-- which assignment has the Name
abbrev pub assigned : Module → List ℕ → Sole
assigned m w = sole (numbered 0 (assignment_names m.assignments)) w

-- which import is from the module of this name
abbrev pub source : List Import → List ℕ → Sole
source is f = sole (numbered 0 (source_names is)) f

-- the symbols of imports, of which the first is the n-th: each with the first import from the same module
abbrev pub imports_from : (List ℕ → Sole) → ℕ → List Import → List Entry
imports_from sources n [] = []
imports_from sources n (i ∷ is) = each (symbol_names i.symbols) (first_of (sources i.from) n) ++ imports_from sources (suc n) is

-- from where the Name is imported: the first import from that module
abbrev pub imported : Module → List ℕ → Sole
imported m w = sole (imports_from (source m.imports) 0 m.imports) w

abbrev pub is_exported : Exports → List ℕ → Bool
is_exported all w = true
is_exported (these ss) w = is_there (sole (numbered 0 (symbol_names ss)) w)

-- ---- versions

-- the arcs of each module's identifier, where they are told
abbrev pub identifiers : List Module → List (Option (List ℕ))
identifiers ms = map (λ m. arcs m.id) ms

abbrev pub other_by : Import → Option (Option (List ℕ)) → Bool
other_by i None = false
other_by i (Some has) = not (fits i.versions (arcs i.id) has)

abbrev pub is_other_than : List (Option (List ℕ)) → Import → Sole → Bool
is_other_than ids i Nothing = false
is_other_than ids i (One k) = other_by i (slice_get ids k)
is_other_than ids i (Two a b) = false

-- whether an import asks for another version than that of the module of its name, where there is one such
abbrev pub is_other : (List ℕ → Sole) → List (Option (List ℕ)) → Import → Bool
is_other modules ids i = is_other_than ids i (modules i.from)

abbrev pub other_entries : Bool → List ℕ → ℕ → List Entry
other_entries true f n = record { name = f; number = n } ∷ []
other_entries false f n = []

-- those of imports, of which the first is the n-th, under the names of their modules
abbrev pub others_from : (List ℕ → Sole) → List (Option (List ℕ)) → ℕ → List Import → List Entry
others_from modules ids n [] = []
others_from modules ids n (i ∷ is) = other_entries (is_other modules ids i) i.from n ++ others_from modules ids (suc n) is

-- which imports from a module of this name ask for another version
abbrev pub other : (List ℕ → Sole) → List (Option (List ℕ)) → Module → List ℕ → Sole
other modules ids m f = sole (others_from modules ids 0 m.imports) f

-- ---- modules, named by their place in the list

-- which module has the name
unfoldable pub named : List Module → List ℕ → Sole
named ms f = sole (numbered 0 (module_names ms)) f

-- the Names that modules assign, of which the first is the n-th
abbrev pub assigners_from : ℕ → List Module → List Entry
assigners_from n [] = []
assigners_from n (m ∷ ms) = each (assignment_names m.assignments) n ++ assigners_from (suc n) ms

-- which module assigns the Name
unfoldable pub assigner : List Module → List ℕ → Sole
assigner ms w = sole (assigners_from 0 ms) w

unfoldable pub assignments_in : List Module → ℕ → List Assignment
assignments_in ms k = option_map_or (λ m. m.assignments) (slice_get ms k) []

unfoldable pub imports_in : List Module → ℕ → List Import
imports_in ms k = option_map_or (λ m. m.imports) (slice_get ms k) []

unfoldable pub assigned_in : List Module → ℕ → List ℕ → Sole
assigned_in ms k w = option_map_or (λ m. assigned m w) (slice_get ms k) Nothing

unfoldable pub source_in : List Module → ℕ → List ℕ → Sole
source_in ms k f = option_map_or (λ m. source m.imports f) (slice_get ms k) Nothing

unfoldable pub imported_in : List Module → ℕ → List ℕ → Sole
imported_in ms k w = option_map_or (λ m. imported m w) (slice_get ms k) Nothing

unfoldable pub is_exported_in : List Module → ℕ → List ℕ → Bool
is_exported_in ms k w = option_map_or (λ m. is_exported m.exports w) (slice_get ms k) false

unfoldable pub other_in : List Module → ℕ → List ℕ → Sole
other_in ms k f = option_map_or (λ m. other (named ms) (identifiers ms) m f) (slice_get ms k) Nothing

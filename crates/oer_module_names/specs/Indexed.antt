-- What an index of Names has.
use Rattle.std.specs.Prelude.{◌≡◌, ℕ, List, [], ◌∷◌, Bool, true, false, length, Option, Some, None, slice_get, unwrap_or}
use Rattle.std.specs.BTreeMap.{get_by}
use Rattle.std.specs.Cmp.Lexicographic.{slice_cmp}
use Rattle.std.specs.Option.{option_map_or}
use Rattle.std.specs.Ordering.{nat_cmp}
use Rattle.oer_module_syntax.specs.Tree.{Exports, Module}
use Rattle.oer_module_names.specs.Sole.{Entry, is_there, numbered, sole, sole_from}
use Rattle.oer_module_names.specs.Tables.{assigned_in, assigner, assignment_names, imported_in, imports_from, is_exported, is_exported_in, named, other_in, others_from, source, source_in, source_names}
use Rattle.oer_module_names.specs.declared.index.Index.{Index}
use Rattle.oer_module_names.specs.declared.index.Sole.{Sole}
use Rattle.oer_module_names.specs.declared.index.Sole.TheVariants.{Nothing}
use Rattle.oer_module_names.specs.declared.part.Part.{Part}

-- what an index has under a Name
unfoldable pub held : Index → List ℕ → Sole
held x w = unwrap_or (get_by (λ k. slice_cmp nat_cmp w k.now) x.slots) Nothing

-- it has what these entries say
pub record IsIndexOf (x : Index) (es : List Entry) : Type 0 where
  pub at : (w : List ℕ) → held x w ≡ sole es w

-- it has what another has, and then what these entries say
pub record Extends (x : Index) (es : List Entry) (y : Index) : Type 0 where
  pub at : (w : List ℕ) → held y w ≡ sole_from (held x w) es w

-- a Part's exports, where it has some
abbrev pub leaves : Option Index → List ℕ → Bool
leaves None w = true
leaves (Some x) w = is_there (held x w)

-- the exports of a Part are those of a module
abbrev pub IsExportsOf : Option Index → Exports → Type 0
IsExportsOf x e = (w : List ℕ) → leaves x w ≡ is_exported e w

-- a Part has what its module says
pub record IsPartOf (p : Part) (m : Module) : Type 0 where
  pub assigned : IsIndexOf p.assigned (numbered 0 (assignment_names m.assignments))
  pub sources : IsIndexOf p.sources (numbered 0 (source_names m.imports))
  pub imported : IsIndexOf p.imported (imports_from (source m.imports) 0 m.imports)
  pub exported : IsExportsOf p.exported m.exports

abbrev pub ArePartsOf : List Part → List Module → Type 0
ArePartsOf [] [] = Unit {0}
ArePartsOf [] (m ∷ ms) = ⊥
ArePartsOf (p ∷ ps) [] = ⊥
ArePartsOf (p ∷ ps) (m ∷ ms) = IsPartOf p m × ArePartsOf ps ms

-- an index for each module, with its imports that ask for another version than is there
abbrev pub AreOthersOf : (List ℕ → Sole) → List (Option (List ℕ)) → List Index → List Module → Type 0
AreOthersOf modules ids [] [] = Unit {0}
AreOthersOf modules ids [] (m ∷ ms) = ⊥
AreOthersOf modules ids (x ∷ xs) [] = ⊥
AreOthersOf modules ids (x ∷ xs) (m ∷ ms) = IsIndexOf x (others_from modules ids 0 m.imports) × AreOthersOf modules ids xs ms

-- the indexes of modules have what these say
pub record IsIndexed (ms : List Module) (by_name : Index) (parts : List Part) (assigners : Index) (others : List Index) : Type 0 where
  pub size : length parts ≡ length ms
  pub other_size : length others ≡ length ms
  pub named : (f : List ℕ) → held by_name f ≡ named ms f
  pub assigner : (w : List ℕ) → held assigners w ≡ assigner ms w
  pub assigned : (k : ℕ) (w : List ℕ) → option_map_or (λ p. held p.assigned w) (slice_get parts k) Nothing ≡ assigned_in ms k w
  pub source : (k : ℕ) (f : List ℕ) → option_map_or (λ p. held p.sources f) (slice_get parts k) Nothing ≡ source_in ms k f
  pub imported : (k : ℕ) (w : List ℕ) → option_map_or (λ p. held p.imported w) (slice_get parts k) Nothing ≡ imported_in ms k w
  pub other : (k : ℕ) (f : List ℕ) → option_map_or (λ x. held x f) (slice_get others k) Nothing ≡ other_in ms k f
  pub exported : (k : ℕ) (w : List ℕ) → option_map_or (λ p. leaves p.exported w) (slice_get parts k) false ≡ is_exported_in ms k w

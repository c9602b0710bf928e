-- Modules as the code has them, and as the definitions.
use Rattle.std.proofs.Common.{◌≡◌, ◌<◌, ℕ, false, List, [], length, map, get_or, Some, slice_get, sym, ap, ◌∙◌, option_map}
use Rattle.std.proofs.lemmas.List.{length-map}
use Rattle.std.proofs.lemmas.Option.{slice_get-get_or, slice_get-map}
use Rattle.std.specs.Option.{option_map_or}
use Rattle.oer_module_syntax.specs.Tree.{Module, assignment_of, import_of, module_of}
use Rattle.oer_module_syntax.specs.declared.tree.Module.{Module as RawModule}
use Rattle.oer_module_names.specs.Indexed.{held, leaves}
use Rattle.oer_module_names.specs.Tables.{assigned_in, assigner, assignments_in, imported_in, imports_in, is_exported_in, named, other_in, source_in}
use Rattle.oer_module_names.specs.Views.{modules_in}
use Rattle.oer_module_names.specs.declared.index.Sole.TheVariants.{Nothing}
use Rattle.oer_module_names.specs.declared.index.Index.{Index}
use Rattle.oer_module_names.specs.declared.names.Names.{Names}
use Rattle.oer_module_names.specs.declared.part.Part.{Part}

pub modules_count : (n : Names) → length (modules_in n) ≡ length n.modules.now
unfolding modules_in
modules_count n = length-map n.modules.now module_of

-- one of a list as the code has it
pub read_at : {X A : Type 0} (f : X → A) (xs : List X) (k : ℕ) (d : X) → k < length xs → slice_get (map f xs) k ≡ Some (f (get_or xs k d))
read_at f xs k d l = slice_get-map f xs k ∙ ap (option_map f) (slice_get-get_or xs k d l)

pub module_read : (n : Names) (k : ℕ) (d : RawModule) → k < length n.modules.now → slice_get (modules_in n) k ≡ Some (module_of (get_or n.modules.now k d))
unfolding modules_in
module_read n k d l = read_at module_of n.modules.now k d l

-- one of a `Vec`, which the code names by its index
pub item_read : {X A : Type 0} (f : X → A) (xs : List X) (k : ℕ) (x : X) → k < length xs → x ≡ get_or xs k x → slice_get (map f xs) k ≡ Some (f x)
item_read f xs k x l is = read_at f xs k x l ∙ ap (λ y. Some (f y)) (sym is)

-- what stands in a module that was read
module _ (ms : List Module) (k : ℕ) (x : RawModule) (h : slice_get ms k ≡ Some (module_of x)) where
  pub imports_read : imports_in ms k ≡ map import_of x.imports.items
  unfolding imports_in
  imports_read = ap (λ o. option_map_or (λ m. m.imports) o []) h

  pub assignments_read : assignments_in ms k ≡ map assignment_of x.assignments.items
  unfolding assignments_in
  assignments_read = ap (λ o. option_map_or (λ m. m.assignments) o []) h

  pub imports_count : length (imports_in ms k) ≡ length x.imports.items
  imports_count = ap length imports_read ∙ length-map x.imports.items import_of

  pub assignments_count : length (assignments_in ms k) ≡ length x.assignments.items
  assignments_count = ap length assignments_read ∙ length-map x.assignments.items assignment_of

-- ---- what the indexes say

pub parts_count : (n : Names) → length n.parts.items ≡ length (modules_in n)
unfolding modules_in
parts_count n = n.indexed.size

pub others_count : (n : Names) → length n.others.items ≡ length (modules_in n)
unfolding modules_in
others_count n = n.indexed.other_size

pub says_other : (n : Names) (k : ℕ) (x : Index) (f : List ℕ) → slice_get n.others.items k ≡ Some x → held x f ≡ other_in (modules_in n) k f
unfolding modules_in
says_other n k x f h = ap (λ o. option_map_or (λ y. held y f) o Nothing) (sym h) ∙ n.indexed.other k f

pub says_named : (n : Names) (f : List ℕ) → held n.by_name f ≡ named (modules_in n) f
unfolding modules_in
says_named n f = n.indexed.named f

pub says_assigner : (n : Names) (w : List ℕ) → held n.assigners w ≡ assigner (modules_in n) w
unfolding modules_in
says_assigner n w = n.indexed.assigner w

module _ (n : Names) (k : ℕ) (p : Part) (w : List ℕ) (h : slice_get n.parts.items k ≡ Some p) where
  pub says_assigned : held p.assigned w ≡ assigned_in (modules_in n) k w
  unfolding modules_in
  says_assigned = ap (λ o. option_map_or (λ q. held q.assigned w) o Nothing) (sym h) ∙ n.indexed.assigned k w

  pub says_source : held p.sources w ≡ source_in (modules_in n) k w
  unfolding modules_in
  says_source = ap (λ o. option_map_or (λ q. held q.sources w) o Nothing) (sym h) ∙ n.indexed.source k w

  pub says_imported : held p.imported w ≡ imported_in (modules_in n) k w
  unfolding modules_in
  says_imported = ap (λ o. option_map_or (λ q. held q.imported w) o Nothing) (sym h) ∙ n.indexed.imported k w

  pub says_exported : leaves p.exported w ≡ is_exported_in (modules_in n) k w
  unfolding modules_in
  says_exported = ap (λ o. option_map_or (λ q. leaves q.exported w) o false) (sym h) ∙ n.indexed.exported k w

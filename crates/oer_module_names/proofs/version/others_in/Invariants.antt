use Rattle.std.proofs.Common.{drop, map, option_map}
use Rattle.oer_module_syntax.specs.Tree.{import_of}
use Rattle.oer_module_names.proofs.Indexing.{Leaves}
use Rattle.oer_module_names.specs.Indexed.{held}
use Rattle.oer_module_names.specs.Tables.{others_from}
use Rattle.oer_module_names.proofs.version.others_in.Given as goal

-- what is left to add
abbrev pub invariant-loop-place : goal.invariant-loop-place
invariant-loop-place l =
    Leaves l.initial.index (others_from (held l.by_name) (map (option_map (λ v. v.items)) l.found) 0 (map import_of l.imports)) l.index
    (others_from (held l.by_name) (map (option_map (λ v. v.items)) l.found) l.place (map import_of (drop l.place l.imports)))

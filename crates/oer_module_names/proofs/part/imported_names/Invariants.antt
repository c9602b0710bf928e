use Rattle.std.proofs.Common.{drop, map}
use Rattle.oer_module_syntax.specs.Tree.{import_of}
use Rattle.oer_module_names.proofs.Indexing.{Leaves}
use Rattle.oer_module_names.specs.Indexed.{held}
use Rattle.oer_module_names.specs.Tables.{imports_from}
use Rattle.oer_module_names.proofs.part.imported_names.Given as goal

-- what is left to add
abbrev pub invariant-loop-place : goal.invariant-loop-place
invariant-loop-place l = Leaves l.initial.index (imports_from (held l.sources) 0 (map import_of l.imports)) l.index (imports_from (held l.sources) l.place (map import_of (drop l.place l.imports)))

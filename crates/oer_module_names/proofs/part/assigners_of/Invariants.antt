use Rattle.std.proofs.Common.{drop, map}
use Rattle.oer_module_syntax.specs.Tree.{module_of}
use Rattle.oer_module_names.proofs.Indexing.{Leaves}
use Rattle.oer_module_names.specs.Tables.{assigners_from}
use Rattle.oer_module_names.proofs.part.assigners_of.Given as goal

-- what is left to add
abbrev pub invariant-loop-place : goal.invariant-loop-place
invariant-loop-place l = Leaves l.initial.index (assigners_from 0 (map module_of l.modules)) l.index (assigners_from l.place (map module_of (drop l.place l.modules)))

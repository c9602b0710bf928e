use Rattle.std.proofs.Common.{drop}
use Rattle.oer_module_names.proofs.Indexing.{Leaves, texts}
use Rattle.oer_module_names.specs.Sole.{numbered}
use Rattle.oer_module_names.proofs.index.Index.numbered.Given as goal

-- what is left to add
abbrev pub invariant-loop-place : goal.invariant-loop-place
invariant-loop-place l = Leaves l.initial.index (numbered 0 (texts l.names)) l.index (numbered l.place (texts (drop l.place l.names)))

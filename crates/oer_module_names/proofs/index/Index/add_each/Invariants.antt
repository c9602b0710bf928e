use Rattle.std.proofs.Common.{drop}
use Rattle.oer_module_names.proofs.Indexing.{Leaves, texts}
use Rattle.oer_module_names.specs.Sole.{each}
use Rattle.oer_module_names.proofs.index.Index.add_each.Given as goal

-- what is left to add
abbrev pub invariant-loop-name : goal.invariant-loop-name
invariant-loop-name l = Leaves l.fn.self (each (texts l.names) l.number) l.self (each (texts (drop l.name-index l.names)) l.number)

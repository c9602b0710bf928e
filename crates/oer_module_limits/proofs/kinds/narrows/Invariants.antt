use Rattle.std.proofs.Common.{◌≡◌, drop, map}
use Rattle.oer_module_limits.specs.Kinds.{narrows}
use Rattle.oer_module_terms.specs.Trees.{constraint_of}
use Rattle.oer_module_limits.proofs.kinds.narrows.Given as goal

-- none of those before does
abbrev pub invariant-loop-index : goal.invariant-loop-index
invariant-loop-index l =
    narrows l.kind l.sized (map constraint_of l.constraints) ≡ narrows l.kind l.behind_size (map constraint_of (drop l.index l.constraints))

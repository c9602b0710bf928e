use Rattle.std.proofs.Common.{[], map}
use Rattle.oer_module_limits.proofs.Loops.{SoFar}
use Rattle.oer_module_limits.specs.Written.{given_read}
use Rattle.oer_module_terms.specs.Trees.{constraint_of}
use Rattle.oer_module_values.specs.Views.{given_of}
use Rattle.oer_module_limits.proofs.written.given_constraints.Given as goal

-- those found and those of what is left are all of them
abbrev pub invariant-loop-one : goal.invariant-loop-one
invariant-loop-one l = SoFar given_of given_read l.given [] l.one-index (map constraint_of l.found.items)

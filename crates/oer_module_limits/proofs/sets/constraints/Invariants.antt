use Rattle.std.proofs.Common.{[], map}
use Rattle.oer_module_bounds.specs.Sets.{constraint_of as bounding_of}
use Rattle.oer_module_limits.proofs.Loops.{SoFar}
use Rattle.oer_module_limits.specs.Sets.{constraint, set_at, single_of}
use Rattle.oer_module_limits.specs.Views.{measure_seen}
use Rattle.oer_module_names.specs.Views.{modules_in}
use Rattle.oer_module_terms.specs.Trees.{constraint_of}
use Rattle.oer_module_limits.proofs.sets.constraints.Given as goal

-- those found and those of what is left are all of them
abbrev pub invariant-loop-one : goal.invariant-loop-one
invariant-loop-one l =
    SoFar constraint_of (λ x. single_of (constraint (set_at (modules_in l.names) l.levels) (measure_seen l.measure) l.«module» x))
    l.written [] l.one-index (map bounding_of l.found.items)

use Rattle.std.proofs.Common.{[], ◌+◌, ◌*◌, map}
use Rattle.oer_module_bounds.specs.Sets.{set_of}
use Rattle.oer_module_limits.proofs.Loops.{SoFar}
use Rattle.oer_module_limits.specs.Sets.{set_at, single_of}
use Rattle.oer_module_limits.specs.Views.{measure_seen}
use Rattle.oer_module_names.specs.Views.{modules_in}
use Rattle.oer_module_terms.specs.Trees.{elements_of}
use Rattle.oer_module_limits.proofs.sets.+sets.Given as goal

abbrev pub decreases-set_of : goal.decreases-set_of
decreases-set_of l = 20 * l.levels + 0

abbrev pub decreases-sets_of : goal.decreases-sets_of
decreases-sets_of l = 20 * l.levels + 1

abbrev pub decreases-constraint : goal.decreases-constraint
decreases-constraint l = 20 * l.levels + 1

abbrev pub decreases-sized : goal.decreases-sized
decreases-sized l = 20 * l.levels + 2

abbrev pub decreases-set_by : goal.decreases-set_by
decreases-set_by l = 20 * l.levels + 9

-- those found and those of what is left are all of them
abbrev pub invariant-sets_of-loop-member : goal.invariant-sets_of-loop-member
invariant-sets_of-loop-member l =
    SoFar elements_of (λ e. single_of (set_at (modules_in l.names) l.levels (measure_seen l.measure) l.place e))
    l.members [] l.member-index (map set_of l.sets.items)

use Rattle.std.proofs.Common.{[], map}
use Rattle.oer_module_bounds.specs.Sets.{constraint_of as bounding_of}
use Rattle.oer_module_limits.proofs.Loops.{SoFar}
use Rattle.oer_module_limits.specs.Sets.{given_row, set_at}
use Rattle.oer_module_limits.specs.Views.{measure_seen}
use Rattle.oer_module_names.specs.Views.{modules_in}
use Rattle.oer_module_values.specs.Views.{given_of}
use Rattle.oer_module_limits.proofs.sets.given_rows.Given as goal

-- those found and those of what is left are all of them
abbrev pub invariant-loop-one : goal.invariant-loop-one
invariant-loop-one l =
    SoFar given_of (given_row (set_at (modules_in l.names) l.levels) (measure_seen l.measure)) l.given [] l.one-index (map bounding_of l.found.items)

use Rattle.oer_module_bounds.proofs.Members.{Bounded}
use Rattle.oer_module_bounds.proofs.hull.counted_range.Given as goal

abbrev pub invariant-loop-constraint : goal.invariant-loop-constraint
invariant-loop-constraint l = Bounded l.tally l.bounding l.constraints l.constraint-index

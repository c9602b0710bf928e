use Rattle.std.proofs.Common.{drop, ◌+◌}
use Rattle.oer_values.specs.ValueView.{values_of}
use Rattle.oer_writer.proofs.Bounds.{LeftValues}
use Rattle.oer_writer.proofs.bound.bound_booleans.Given as goal

abbrev pub invariant-loop-value : goal.invariant-loop-value
invariant-loop-value l = LeftValues l.done (values_of l.values) (l.done + l.value-index) (values_of (drop l.value-index l.values))

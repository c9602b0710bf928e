use Rattle.std.proofs.Common.{◌≡◌, ◌+◌}
use Rattle.oer_layout.specs.Layout.{digits_of}
use Rattle.oer_layout.proofs.columns.digits_of.Given as goal

abbrev pub invariant-loop-left : goal.invariant-loop-left
invariant-loop-left l = digits_of l.number + 1 ≡ digits_of l.left + l.count

abbrev pub decreases-loop-left : goal.decreases-loop-left
decreases-loop-left l = l.left

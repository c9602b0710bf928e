use Rattle.std.proofs.Common.{◌≡◌, length}
use Rattle.oer_model.specs.FaultTest.{names_repeat}
use Rattle.oer_values.specs.ShapeView.{additions_of}
use Rattle.oer_model.specs.WellFormed.{addition_names}
use Rattle.oer_types.proofs.name.addition_names_repeat.Given as goal

abbrev pub invariant-loop-addition : goal.invariant-loop-addition
invariant-loop-addition l = names_repeat (addition_names (additions_of l.rest)) ≡ names_repeat (addition_names (additions_of l.additions))

abbrev pub decreases-loop-addition : goal.decreases-loop-addition
decreases-loop-addition l = length l.rest

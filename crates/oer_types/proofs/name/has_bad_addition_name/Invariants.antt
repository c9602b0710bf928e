use Rattle.std.proofs.Common.{◌≡◌, drop}
use Rattle.oer_model.specs.FaultTest.{any_bad_name}
use Rattle.oer_values.specs.ShapeView.{additions_of}
use Rattle.oer_model.specs.WellFormed.{addition_names}
use Rattle.oer_types.proofs.name.has_bad_addition_name.Given as goal

abbrev pub invariant-loop-addition : goal.invariant-loop-addition
invariant-loop-addition l = any_bad_name (addition_names (additions_of (drop l.addition-index l.additions))) ≡ any_bad_name (addition_names (additions_of l.additions))

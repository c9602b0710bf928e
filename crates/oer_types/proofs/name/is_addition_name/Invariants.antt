use Rattle.std.proofs.Common.{◌≡◌, drop, string_bytes}
use Rattle.oer_model.specs.FaultTest.{contains_name}
use Rattle.oer_values.specs.ShapeView.{additions_of}
use Rattle.oer_model.specs.WellFormed.{addition_names}
use Rattle.oer_types.proofs.name.is_addition_name.Given as goal

abbrev pub invariant-loop-addition : goal.invariant-loop-addition
invariant-loop-addition l = contains_name (string_bytes l.name) (addition_names (additions_of (drop l.addition-index l.additions))) ≡ contains_name (string_bytes l.name) (addition_names (additions_of l.additions))

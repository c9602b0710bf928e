use Rattle.std.proofs.Common.{◌≡◌, drop}
use Rattle.oer_model.specs.FaultTest.{any_misfit}
use Rattle.oer_values.specs.ShapeView.{fields_of}
use Rattle.oer_types.proofs.rule.any_misfit.Given as goal

abbrev pub invariant-loop-field : goal.invariant-loop-field
invariant-loop-field l = any_misfit (fields_of (drop l.field-index l.fields)) ≡ any_misfit (fields_of l.fields)

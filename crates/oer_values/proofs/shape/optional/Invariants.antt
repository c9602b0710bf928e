use Rattle.std.proofs.Common.{◌≡◌, ◌+◌, ◌≤◌, drop}
use Rattle.oer_model.specs.Constraints.{optional}
use Rattle.oer_values.specs.ShapeView.{fields_of}
use Rattle.oer_values.proofs.shape.optional.Given as goal

abbrev pub invariant-loop-field : goal.invariant-loop-field
invariant-loop-field l = record {
  rest : l.count + optional (fields_of (drop l.field-index l.fields)) ≡ optional (fields_of l.fields);
  most : l.count ≤ l.field-index;
}

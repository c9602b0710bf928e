use Rattle.std.proofs.Common.{drop}
use Rattle.oer_values.specs.ShapeView.{fields_of}
use Rattle.oer_writer.proofs.TypeBounds.{LeftMost}
use Rattle.oer_writer.proofs.most.+most.Given as goal

abbrev pub invariant-most_of_fields-loop-field : goal.invariant-most_of_fields-loop-field
invariant-most_of_fields-loop-field l = LeftMost (fields_of l.fields) l.sum (fields_of (drop l.field-index l.fields))

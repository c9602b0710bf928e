use Rattle.std.proofs.Common.{drop}
use Rattle.oer_values.specs.ShapeView.{fields_of}
use Rattle.oer_values.specs.ValueView.{places_of}
use Rattle.oer_writer.proofs.TypeBounds.{LeftFields}
use Rattle.oer_writer.proofs.typed_bound.+typed_bound.Given as goal

abbrev pub invariant-bound_fields-loop-field : goal.invariant-bound_fields-loop-field
invariant-bound_fields-loop-field l = LeftFields l.fn.done (fields_of l.fields) (places_of l.places) l.done (fields_of (drop l.field-index l.fields)) (places_of l.rest)

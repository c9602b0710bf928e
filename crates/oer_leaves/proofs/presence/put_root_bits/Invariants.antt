use Rattle.std.proofs.Common.{drop}
use Rattle.oer_values.specs.ShapeView.{fields_of}
use Rattle.oer_values.specs.ValueView.{places_of}
use Rattle.oer_leaves.specs.Parts.{field_bits}
use Rattle.oer_leaves.proofs.PackSteps.{Through}
use Rattle.oer_leaves.proofs.presence.put_root_bits.Given as goal

abbrev pub invariant-loop-field : goal.invariant-loop-field
invariant-loop-field g l = Through l.fn.done (field_bits (fields_of l.fields) (places_of l.places)) l.fn.packer (g.W.Sink.contents l.fn.sink) (g.W.Sink.failed l.fn.sink) l.done (g.W.Sink.contents l.sink) (g.W.Sink.failed l.sink) l.packer (field_bits (fields_of (drop l.field-index l.fields)) (places_of l.rest))

use Rattle.std.proofs.Common.{drop}
use Rattle.oer_values.specs.ShapeView.{additions_of, fields_of, type_of}
use Rattle.oer_values.specs.ValueView.{places_of, values_of}
use Rattle.oer_leaves.specs.Parts.{field_octets, known_octets, values_octets}
use Rattle.oer_leaves.specs.Wrote.{Ahead}
use Rattle.oer_writer.proofs.put.+put.Given as goal

abbrev pub invariant-put_fields-loop-field : goal.invariant-put_fields-loop-field
invariant-put_fields-loop-field g l = Ahead l.fn.done (field_octets (fields_of l.fields) (places_of l.places)) (g.W.Sink.contents l.fn.sink) (g.W.Sink.failed l.fn.sink) l.done (g.W.Sink.contents l.sink) (g.W.Sink.failed l.sink) (field_octets (fields_of (drop l.field-index l.fields)) (places_of l.rest))

abbrev pub invariant-put_additions-loop-addition : goal.invariant-put_additions-loop-addition
invariant-put_additions-loop-addition g l = Ahead l.fn.done (known_octets (additions_of l.additions) (places_of l.places)) (g.W.Sink.contents l.fn.sink) (g.W.Sink.failed l.fn.sink) l.done (g.W.Sink.contents l.sink) (g.W.Sink.failed l.sink) (known_octets (additions_of (drop l.addition-index l.additions)) (places_of l.rest))

abbrev pub invariant-put_values-loop-value : goal.invariant-put_values-loop-value
invariant-put_values-loop-value g l = Ahead l.fn.done (values_octets (type_of l.item) (values_of l.values)) (g.W.Sink.contents l.fn.sink) (g.W.Sink.failed l.fn.sink) l.done (g.W.Sink.contents l.sink) (g.W.Sink.failed l.sink) (values_octets (type_of l.item) (values_of (drop l.value-index l.values)))

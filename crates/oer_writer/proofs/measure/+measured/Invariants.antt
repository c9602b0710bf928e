use Rattle.std.proofs.Common.{◌≡◌, ◌+◌, length, drop}
use Rattle.oer_values.specs.ShapeView.{additions_of, fields_of, type_of}
use Rattle.oer_values.specs.ValueView.{places_of, values_of}
use Rattle.oer_leaves.specs.Parts.{field_octets, known_octets, values_octets}
use Rattle.oer_writer.proofs.measure.+measured.Given as goal

-- those done and those of the rest are all

abbrev pub invariant-measured_additions-loop-addition :
    goal.invariant-measured_additions-loop-addition
invariant-measured_additions-loop-addition l = l.done + length (known_octets (additions_of (drop l.addition-index l.additions)) (places_of l.rest)) ≡ l.fn.done + length (known_octets (additions_of l.additions) (places_of l.places))

abbrev pub invariant-measured_fields-loop-field : goal.invariant-measured_fields-loop-field
invariant-measured_fields-loop-field l = l.done + length (field_octets (fields_of (drop l.field-index l.fields)) (places_of l.rest)) ≡ l.fn.done + length (field_octets (fields_of l.fields) (places_of l.places))

abbrev pub invariant-measured_values-loop-value : goal.invariant-measured_values-loop-value
invariant-measured_values-loop-value l = l.done + length (values_octets (type_of l.item) (values_of (drop l.value-index l.values))) ≡ l.fn.done + length (values_octets (type_of l.item) (values_of l.values))

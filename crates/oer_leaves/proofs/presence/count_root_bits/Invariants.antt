use Rattle.std.proofs.Common.{◌≡◌, ◌+◌, ◌≤◌, drop, length}
use Rattle.oer_values.specs.ShapeView.{fields_of}
use Rattle.oer_values.specs.ValueView.{places_of}
use Rattle.oer_leaves.specs.Parts.{field_bits}
use Rattle.oer_leaves.proofs.presence.count_root_bits.Given as goal

abbrev pub invariant-loop-field : goal.invariant-loop-field
invariant-loop-field l = record {
  count : l.count + length (field_bits (fields_of (drop l.field-index l.fields)) (places_of l.rest)) ≡ length (field_bits (fields_of l.fields) (places_of l.places));
  most : l.count ≤ l.field-index;
}

use Rattle.std.proofs.Common.{◌≡◌, drop, map, take}
use Rattle.oer_model.specs.Filling.{filled, filled_additions, filled_fields}
use Rattle.oer_values.specs.ShapeView.{additions_of, fields_of, type_of}
use Rattle.oer_values.specs.ValueView.{attached, places_of, value_of}
use Rattle.oer_values.proofs.defaults.+fill_in.Given as goal

abbrev pub invariant-fill_fields-loop-field : goal.invariant-fill_fields-loop-field
invariant-fill_fields-loop-field l = attached l.copies.items (filled_fields (fields_of (drop l.field-index l.fields)) (places_of l.rest)) ≡ filled_fields (fields_of l.fields) (places_of l.places)

abbrev pub invariant-fill_additions-loop-addition : goal.invariant-fill_additions-loop-addition
invariant-fill_additions-loop-addition l = attached l.copies.items (filled_additions (additions_of (drop l.addition-index l.additions)) (places_of l.rest)) ≡ filled_additions (additions_of l.additions) (places_of l.places)

abbrev pub invariant-fill_values-loop-value : goal.invariant-fill_values-loop-value
invariant-fill_values-loop-value l = map value_of l.copies.items ≡ map (λ v. filled (type_of l.item) (value_of v)) (take l.value-index l.values)

use Rattle.std.proofs.Common.{◌≡◌, ◌↔◌, drop}
use Rattle.oer_model.specs.Filling.{filled, filled_fields, filled_additions, map_values}
use Rattle.oer_values.specs.ShapeView.{type_of, fields_of, additions_of}
use Rattle.oer_values.specs.ValueView.{values_of, places_of}
use Rattle.oer_values.proofs.fill.+same_filled.Given as goal

-- whether what is left is the same after filling, says whether all is
abbrev pub invariant-same_filled_fields-loop-field : goal.invariant-same_filled_fields-loop-field
invariant-same_filled_fields-loop-field l =
    (filled_fields (fields_of (drop l.field-index l.fields)) (places_of l.rest_a) ≡ filled_fields (fields_of (drop l.field-index l.fields)) (places_of l.rest_b))
    ↔ (filled_fields (fields_of l.fields) (places_of l.ones) ≡ filled_fields (fields_of l.fields) (places_of l.others))

abbrev pub invariant-same_filled_additions-loop-addition : goal.invariant-same_filled_additions-loop-addition
invariant-same_filled_additions-loop-addition l =
    (filled_additions (additions_of (drop l.addition-index l.additions)) (places_of l.rest_a) ≡ filled_additions (additions_of (drop l.addition-index l.additions)) (places_of l.rest_b))
    ↔ (filled_additions (additions_of l.additions) (places_of l.ones) ≡ filled_additions (additions_of l.additions) (places_of l.others))

abbrev pub invariant-same_filled_values-loop-one : goal.invariant-same_filled_values-loop-one
invariant-same_filled_values-loop-one l =
    (map_values (filled (type_of l.item)) (values_of (drop l.one-index l.ones)) ≡ map_values (filled (type_of l.item)) (values_of l.rest))
    ↔ (map_values (filled (type_of l.item)) (values_of l.ones) ≡ map_values (filled (type_of l.item)) (values_of l.others))

use Rattle.std.proofs.Common.{◌≡◌, drop}
use Rattle.oer_model.specs.FitTest.{is_fit, fields_fit, additions_fit, all_fit}
use Rattle.oer_values.specs.ShapeView.{type_of, fields_of, additions_of}
use Rattle.oer_values.specs.ValueView.{values_of, places_of}
use Rattle.oer_values.proofs.fit.+fits.Given as goal

-- whether what is left fits, says whether all does
abbrev pub invariant-fields_fit-loop-field : goal.invariant-fields_fit-loop-field
invariant-fields_fit-loop-field l = fields_fit (fields_of (drop l.field-index l.fields)) (places_of l.rest) ≡ fields_fit (fields_of l.fields) (places_of l.places)

abbrev pub invariant-additions_fit-loop-addition : goal.invariant-additions_fit-loop-addition
invariant-additions_fit-loop-addition l = additions_fit (additions_of (drop l.addition-index l.additions)) (places_of l.rest) ≡ additions_fit (additions_of l.additions) (places_of l.places)

abbrev pub invariant-all_fit-loop-value : goal.invariant-all_fit-loop-value
invariant-all_fit-loop-value l = all_fit (is_fit (type_of l.item)) (values_of (drop l.value-index l.values)) ≡ all_fit (is_fit (type_of l.item)) (values_of l.values)

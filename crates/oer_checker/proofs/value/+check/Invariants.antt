use Rattle.std.proofs.Common.{◌≡◌, ◌-◌, drop}
use Rattle.oer_model.specs.Checking.{check_additions, check_fields, check_times, check_value}
use Rattle.oer_values.specs.ShapeView.{additions_of, fields_of, type_of}
use Rattle.oer_checker.specs.BitView.{bits_in}
use Rattle.oer_checker.specs.Places.{place_of}
use Rattle.oer_checker.specs.Steps.{and_after}
use Rattle.oer_checker.proofs.value.+check.Given as goal

abbrev pub invariant-check_additions-loop-addition : goal.invariant-check_additions-loop-addition
invariant-check_additions-loop-addition l = and_after l.is_canonical (check_additions (additions_of (drop l.addition-index l.additions)) (bits_in l.left) (place_of l.at)) ≡ check_additions (additions_of l.additions) (bits_in l.bits) (place_of l.fn.at)

abbrev pub invariant-check_elements-loop-turn : goal.invariant-check_elements-loop-turn
invariant-check_elements-loop-turn l = and_after l.is_canonical (check_times (l.count - l.turn) (check_value (type_of l.item)) (place_of l.at)) ≡ check_times l.count (check_value (type_of l.item)) (place_of l.fn.at)

abbrev pub invariant-check_fields-loop-field : goal.invariant-check_fields-loop-field
invariant-check_fields-loop-field l = and_after l.is_canonical (check_fields (fields_of (drop l.field-index l.fields)) (bits_in l.left) (place_of l.at)) ≡ check_fields (fields_of l.fields) (bits_in l.bits) (place_of l.fn.at)

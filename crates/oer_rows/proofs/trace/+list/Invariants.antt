use Rattle.std.proofs.Common.{◌≡◌, ◌-◌, ◌++◌, ◌∷◌, [], drop}
use Rattle.oer_model.specs.Parts.{to_item}
use Rattle.oer_values.specs.ShapeView.{additions_of, fields_of, type_of}
use Rattle.oer_checker.specs.BitView.{bits_in}
use Rattle.oer_checker.specs.Places.{place_of}
use Rattle.oer_rows.specs.Rows.{Comes, path_in, walk_additions, walk_fields, walk_times, walk_value}
use Rattle.oer_rows.proofs.trace.+list.Given as goal

abbrev pub invariant-list_additions-loop-addition : goal.invariant-list_additions-loop-addition
invariant-list_additions-loop-addition g l = (l.index ≡ l.addition-index) × Comes g.T.TakeRow.takes l.fn.taker l.taker
    (walk_additions (additions_of (drop l.addition-index l.additions)) l.spot.total (path_in l.spot) l.addition-index (bits_in l.left)) (place_of l.at)
    (walk_additions (additions_of l.additions) l.spot.total (path_in l.spot) 0 (bits_in l.bits)) (place_of l.cursor)

abbrev pub invariant-list_elements-loop-turn : goal.invariant-list_elements-loop-turn
invariant-list_elements-loop-turn g l = Comes g.T.TakeRow.takes l.fn.taker l.taker
    (walk_times (λ i. walk_value (type_of l.item) l.spot.total (path_in l.spot ++ (to_item i ∷ []))) l.turn (l.count - l.turn)) (place_of l.at)
    (walk_times (λ i. walk_value (type_of l.item) l.spot.total (path_in l.spot ++ (to_item i ∷ []))) 0 l.count) (place_of l.cursor)

abbrev pub invariant-list_fields-loop-field : goal.invariant-list_fields-loop-field
invariant-list_fields-loop-field g l = (l.index ≡ l.field-index) × Comes g.T.TakeRow.takes l.fn.taker l.taker
    (walk_fields (fields_of (drop l.field-index l.fields)) l.spot.total (path_in l.spot) l.field-index (bits_in l.left)) (place_of l.at)
    (walk_fields (fields_of l.fields) l.spot.total (path_in l.spot) 0 (bits_in l.bits)) (place_of l.cursor)

use Rattle.std.proofs.Common.{◌≡◌, drop, map, take}
use Rattle.oer_values.specs.ShapeView.{additions_of, fields_of, type_of}
use Rattle.oer_values.specs.ValueView.{attached, value_of}
use Rattle.oer_random.specs.Drawn.{drawn, drawn_additions, drawn_fields}
use Rattle.oer_random.proofs.drawn.+drawn.Given as goal

-- those that are made, and those to come
abbrev pub invariant-fields-loop-field : goal.invariant-fields-loop-field
invariant-fields-loop-field l =
    attached l.places.items (drawn_fields l.room l.rng (fields_of (drop l.field-index l.fields))) ≡ drawn_fields l.room l.seed (fields_of l.fields)

abbrev pub invariant-added-loop-addition : goal.invariant-added-loop-addition
invariant-added-loop-addition l =
    attached l.places.items (drawn_additions l.room l.rng (additions_of (drop l.addition-index l.additions))) ≡ drawn_additions l.room l.seed (additions_of l.additions)

abbrev pub invariant-list-loop-word : goal.invariant-list-loop-word
invariant-list-loop-word l = map value_of l.values.items ≡ map (λ x. drawn l.room x (type_of l.item)) (take l.word-index l.word-items)

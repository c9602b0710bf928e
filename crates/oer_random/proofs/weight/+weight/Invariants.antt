use Rattle.std.proofs.Common.{◌≡◌, ◌+◌, ◌-◌, drop}
use Rattle.oer_values.specs.ShapeView.{additions_of, fields_of, type_of}
use Rattle.oer_random.specs.Weight.{total, weight, weight_additions, weight_fields}
use Rattle.oer_random.specs.Words.{words}
use Rattle.oer_random.proofs.weight.+weight.Given as goal

-- what is left to count
abbrev pub invariant-weigh_fields-loop-field : goal.invariant-weigh_fields-loop-field
invariant-weigh_fields-loop-field l =
    l.left + weight_fields l.room l.seed (fields_of l.fields) ≡ l.fn.left + weight_fields l.room l.rng (fields_of (drop l.field-index l.fields))

abbrev pub invariant-weigh_additions-loop-addition : goal.invariant-weigh_additions-loop-addition
invariant-weigh_additions-loop-addition l =
    l.left + weight_additions l.room l.seed (additions_of l.additions) ≡ l.fn.left + weight_additions l.room l.rng (additions_of (drop l.addition-index l.additions))

abbrev pub invariant-weigh_list-loop : goal.invariant-weigh_list-loop
invariant-weigh_list-loop l =
    l.left + total (λ x. weight l.room x (type_of l.item)) (words l.count l.seed)
    ≡ l.fn.left + total (λ x. weight l.room x (type_of l.item)) (words (l.count - l.counter) l.rng)

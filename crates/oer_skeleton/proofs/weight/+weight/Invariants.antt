use Rattle.std.proofs.Common.{◌≡◌, ◌+◌, drop}
use Rattle.oer_values.specs.ShapeView.{additions_of, fields_of}
use Rattle.oer_skeleton.specs.Weight.{weight_additions, weight_fields}
use Rattle.oer_skeleton.proofs.weight.+weight.Given as goal

-- what is left to count
abbrev pub invariant-weigh_fields-loop-field : goal.invariant-weigh_fields-loop-field
invariant-weigh_fields-loop-field l = l.left + weight_fields l.parts (fields_of l.fields) ≡ l.fn.left + weight_fields l.parts (fields_of (drop l.field-index l.fields))

abbrev pub invariant-weigh_additions-loop-addition : goal.invariant-weigh_additions-loop-addition
invariant-weigh_additions-loop-addition l = l.left + weight_additions l.parts (additions_of l.additions) ≡ l.fn.left + weight_additions l.parts (additions_of (drop l.addition-index l.additions))

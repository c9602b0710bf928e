use Rattle.std.proofs.Common.{◌≡◌, take, map}
use Rattle.oer_values.specs.ShapeView.{seen_field, seen_addition, seen_alternative}
use Rattle.oer_ends.specs.Opened.{opened_addition, opened_alternative, opened_field}
use Rattle.oer_ends.proofs.opening.+opening.Given as goal

abbrev pub invariant-open_fields-loop-field : goal.invariant-open_fields-loop-field
invariant-open_fields-loop-field l = map seen_field l.made.items ≡ map opened_field (map seen_field (take l.field-index l.fields))

abbrev pub invariant-open_additions-loop-addition : goal.invariant-open_additions-loop-addition
invariant-open_additions-loop-addition l = map seen_addition l.made.items ≡ map opened_addition (map seen_addition (take l.addition-index l.additions))

abbrev pub invariant-open_alternatives-loop-alt : goal.invariant-open_alternatives-loop-alt
invariant-open_alternatives-loop-alt l = map seen_alternative l.made.items ≡ map opened_alternative (map seen_alternative (take l.alt-index l.alts))

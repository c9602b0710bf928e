use Rattle.std.proofs.Common.{◌≡◌, take, map}
use Rattle.oer_values.specs.ShapeView.{seen_field, seen_addition, seen_alternative}
use Rattle.oer_values.proofs.copy.+copy.Given as goal

abbrev pub invariant-copy_fields-loop-field : goal.invariant-copy_fields-loop-field
invariant-copy_fields-loop-field l = map seen_field l.copies.items ≡ map seen_field (take l.field-index l.fields)

abbrev pub invariant-copy_additions-loop-addition : goal.invariant-copy_additions-loop-addition
invariant-copy_additions-loop-addition l = map seen_addition l.copies.items ≡ map seen_addition (take l.addition-index l.additions)

abbrev pub invariant-copy_alternatives-loop-alt : goal.invariant-copy_alternatives-loop-alt
invariant-copy_alternatives-loop-alt l = map seen_alternative l.copies.items ≡ map seen_alternative (take l.alt-index l.alts)

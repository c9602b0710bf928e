use Rattle.std.proofs.Common.{◌≡◌, map, option_map, take}
use Rattle.std.proofs.Math.ListN.{replicate}
use Rattle.oer_values.specs.ShapeView.{type_of}
use Rattle.oer_values.specs.ValueView.{value_of}
use Rattle.oer_skeleton.specs.Skeleton.{skeleton}
use Rattle.oer_skeleton.proofs.Components.{addition_part, field_part}
use Rattle.oer_skeleton.proofs.skeleton.+skeleton.Given as goal

abbrev pub invariant-fields-loop-field : goal.invariant-fields-loop-field
invariant-fields-loop-field l = map (option_map value_of) l.places.items ≡ map (field_part l.parts) (take l.field-index l.fields)

abbrev pub invariant-added-loop-addition : goal.invariant-added-loop-addition
invariant-added-loop-addition l = map (option_map value_of) l.places.items ≡ map (addition_part l.parts) (take l.addition-index l.additions)

abbrev pub invariant-list-loop : goal.invariant-list-loop
invariant-list-loop l = map value_of l.values.items ≡ replicate l.counter (skeleton l.parts (type_of l.item))

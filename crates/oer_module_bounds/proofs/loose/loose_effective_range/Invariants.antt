use Rattle.std.proofs.Common.{◌≡◌, Some, map, drop}
use Rattle.std.specs.Option.{option_map}
use Rattle.std.specs.List.{fold}
use Rattle.oer_module_bounds.specs.Loose.{loose_each, meet}
use Rattle.oer_module_bounds.specs.Numbers.{bounding}
use Rattle.oer_module_bounds.specs.Sets.{constraint_of, everything, span_of}
use Rattle.oer_module_bounds.proofs.loose.loose_effective_range.Given as goal

abbrev pub invariant-loop-constraint : goal.invariant-loop-constraint
invariant-loop-constraint l =
    fold meet (Some everything) (loose_each (bounding (map constraint_of l.constraints)))
    ≡ fold meet (option_map span_of l.all) (loose_each (bounding (map constraint_of (drop l.constraint-index l.constraints))))

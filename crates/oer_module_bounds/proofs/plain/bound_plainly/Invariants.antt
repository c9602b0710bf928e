use Rattle.std.proofs.Common.{◌≡◌, drop, map}
use Rattle.oer_module_bounds.specs.Loose.{are_plain}
use Rattle.oer_module_bounds.specs.Numbers.{bounding}
use Rattle.oer_module_bounds.specs.Sets.{constraint_of}
use Rattle.oer_module_bounds.proofs.plain.bound_plainly.Given as goal

abbrev pub invariant-loop-constraint : goal.invariant-loop-constraint
invariant-loop-constraint l =
    are_plain (bounding (map constraint_of l.constraints)) ≡ are_plain (bounding (map constraint_of (drop l.constraint-index l.constraints)))

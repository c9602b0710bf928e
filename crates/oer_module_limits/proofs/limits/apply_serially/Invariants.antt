use Rattle.std.proofs.Common.{◌≡◌, map}
use Rattle.oer_module_bounds.specs.Sets.{constraint_of}
use Rattle.oer_module_limits.proofs.Serial.{so_far}
use Rattle.oer_module_limits.specs.Limits.{serially}
use Rattle.oer_module_limits.proofs.limits.apply_serially.Given as goal

-- those before the place have no marker
abbrev pub invariant-loop-at : goal.invariant-loop-at
invariant-loop-at l = serially (map constraint_of l.initial.constraints) ≡ so_far l.at l.constraints

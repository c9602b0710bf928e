use Rattle.std.proofs.Common.{◌≡◌, drop, map}
use Rattle.oer_module_limits.specs.Written.{has_set}
use Rattle.oer_module_values.specs.Views.{given_of}
use Rattle.oer_module_limits.proofs.written.has_set.Given as goal

-- none of those before is one
abbrev pub invariant-loop-one : goal.invariant-loop-one
invariant-loop-one l = has_set (map given_of l.given) ≡ has_set (map given_of (drop l.one-index l.given))

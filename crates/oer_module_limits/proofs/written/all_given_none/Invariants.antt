use Rattle.std.proofs.Common.{◌≡◌, drop, map}
use Rattle.oer_module_limits.specs.Written.{all_given_none}
use Rattle.oer_module_values.specs.Views.{given_of}
use Rattle.oer_module_limits.proofs.written.all_given_none.Given as goal

-- each of those before has none
abbrev pub invariant-loop-one : goal.invariant-loop-one
invariant-loop-one l = all_given_none (map given_of l.given) ≡ all_given_none (map given_of (drop l.one-index l.given))

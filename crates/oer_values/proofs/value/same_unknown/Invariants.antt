use Rattle.std.proofs.Common.{◌≡◌, ◌↔◌, drop, map}
use Rattle.oer_values.specs.ValueView.{unknown_of}
use Rattle.oer_values.proofs.value.same_unknown.Given as goal

-- whether what is left is the same, says whether all is
abbrev pub invariant-loop-one : goal.invariant-loop-one
invariant-loop-one l = (map unknown_of (drop l.one-index l.ones) ≡ map unknown_of l.rest) ↔ (map unknown_of l.ones ≡ map unknown_of l.others)

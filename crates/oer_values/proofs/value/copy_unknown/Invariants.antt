use Rattle.std.proofs.Common.{◌≡◌, take, map}
use Rattle.oer_values.specs.ValueView.{unknown_of}
use Rattle.oer_values.proofs.value.copy_unknown.Given as goal

abbrev pub invariant-loop-one : goal.invariant-loop-one
invariant-loop-one l = map unknown_of l.copies.items ≡ map unknown_of (take l.one-index l.unknown)

use Rattle.std.proofs.Common.{◌≡◌, drop}
use Rattle.oer_model.specs.Bits.{all_false}
use Rattle.oer_checker.specs.BitView.{bits_in}
use Rattle.oer_checker.proofs.bits.Bits.are_clear_from.Given as goal

abbrev pub invariant-loop-index : goal.invariant-loop-index
invariant-loop-index l = all_false (drop l.index (bits_in l.self)) ≡ all_false (drop l.from (bits_in l.self))

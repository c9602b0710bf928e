use Rattle.std.proofs.Common.{◌≡◌, drop}
use Rattle.oer_model.specs.Bits.{all_false}
use Rattle.oer_decoder.proofs.bit_strings.are_false_from.Given as goal

abbrev pub invariant-loop-i : goal.invariant-loop-i
invariant-loop-i l = all_false (drop l.i l.bits) ≡ all_false (drop l.from l.bits)

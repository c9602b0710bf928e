use Rattle.std.proofs.Common.{◌≡◌, ◌++◌, map, take, string_bytes}
use Rattle.oer_literals.specs.Bits.{bit_digit}
use Rattle.oer_literals.proofs.bit.push_bits.Given as goal

abbrev pub invariant-loop-index : goal.invariant-loop-index
invariant-loop-index l = string_bytes l.text ≡ string_bytes l.fn.text ++ take l.index (map bit_digit l.bits)

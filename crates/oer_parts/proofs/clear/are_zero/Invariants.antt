use Rattle.std.proofs.Common.{◌≡◌, drop, true}
use Rattle.oer_model.specs.Bits.{all_false, bits_of}
use Rattle.oer_parts.proofs.clear.are_zero.Given as goal

abbrev pub invariant-loop-octet : goal.invariant-loop-octet
invariant-loop-octet l = all_false (bits_of (drop l.octet-index l.octets)) ≡ true → all_false (bits_of l.octets) ≡ true

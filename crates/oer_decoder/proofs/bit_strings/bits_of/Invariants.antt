use Rattle.std.proofs.Common.{◌≡◌, ◌++◌, drop}
use Rattle.oer_model.specs.Bits.{bits_of}
use Rattle.oer_decoder.proofs.bit_strings.bits_of.Given as goal

abbrev pub invariant-loop-octet : goal.invariant-loop-octet
invariant-loop-octet l = l.bits.items ++ bits_of (drop l.octet-index l.octets) ≡ bits_of l.octets

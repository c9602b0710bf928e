use Rattle.std.proofs.Common.{length}
use Rattle.oer_decoder.specs.Octets.{gathered}
use Rattle.oer_decoder.proofs.Packed.{BitsSoFar}
use Rattle.oer_decoder.proofs.packing.append_bits.Given as goal

abbrev pub invariant-loop-rest : goal.invariant-loop-rest
invariant-loop-rest l = BitsSoFar l.bits l.rest (gathered l.fn.out) (gathered l.out)

abbrev pub decreases-loop-rest : goal.decreases-loop-rest
decreases-loop-rest l = length l.rest

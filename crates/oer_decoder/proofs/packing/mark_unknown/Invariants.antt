use Rattle.std.proofs.Common.{map}
use Rattle.oer_values.specs.ValueView.{unknown_of}
use Rattle.oer_decoder.specs.MarksView.{bits_in}
use Rattle.oer_decoder.proofs.Packed.{MarksSoFar}
use Rattle.oer_decoder.proofs.packing.mark_unknown.Given as goal

abbrev pub invariant-loop-one : goal.invariant-loop-one
invariant-loop-one l = MarksSoFar l.unknown l.one-index l.fn.next l.next (bits_in l.fn.marks) (bits_in l.marks)

use Rattle.std.proofs.Common.{◌≡◌, ◌++◌, replicate, false}
use Rattle.oer_decoder.specs.MarksView.{bits_in}
use Rattle.oer_decoder.proofs.packing.mark_after.Given as goal

abbrev pub invariant-loop-i : goal.invariant-loop-i
invariant-loop-i l = bits_in l.marks ≡ bits_in l.fn.marks ++ replicate l.i false

use Rattle.std.proofs.Common.{ap, take}
use Rattle.oer_decoder.proofs.preamble.Marks.as_slice.Goals as goal

pub returns-in-Few : goal.returns-in-Few
returns-in-Few c = rw (c.in-Few.is) (ap (λ n. take n c.in-Few.bits) c.min.ensures)

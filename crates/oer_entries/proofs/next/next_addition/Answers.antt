use Rattle.std.proofs.Common.{◌∙◌, sym}
use Rattle.oer_entries.specs.Next.{bits_in}
use Rattle.oer_entries.proofs.Nexts.{addition_past}
use Rattle.oer_entries.proofs.next.next_addition.Goals as goal

pub loop-index-preserved : goal.loop-index-preserved
loop-index-preserved c =
    addition_past c.loop-index.index (bits_in c.of-bits.result) (sym c.bit.ensures ∙ c.if-bit.false) ∙ c.loop-index.invariant

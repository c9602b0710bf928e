use Rattle.oer_entries.proofs.Floats.{null_plain}
use Rattle.oer_entries.proofs.plain.PlainJson.null.Goals as goal

pub invariant_of-result : goal.invariant_of-result
invariant_of-result c = record { plain = null_plain; digits = λ no. absurd (cc) }

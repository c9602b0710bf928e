use Rattle.oer_entries.proofs.Floats.{integer_plain}
use Rattle.oer_entries.proofs.plain.PlainJson.number.Goals as goal

pub invariant_of-result : goal.invariant_of-result
invariant_of-result c = record { plain = integer_plain _ _ c.from-json.ensures; digits = λ no. absurd (cc) }

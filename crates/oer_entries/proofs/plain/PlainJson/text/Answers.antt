use Rattle.std.proofs.Common.{ap}
use Rattle.serde_json.specs.Written.{has_float}
use Rattle.oer_entries.proofs.plain.PlainJson.text.Goals as goal

pub invariant_of-result : goal.invariant_of-result
invariant_of-result c = record { plain = ap has_float c.in_ok-json.ensures; digits = λ no. absurd (cc) }

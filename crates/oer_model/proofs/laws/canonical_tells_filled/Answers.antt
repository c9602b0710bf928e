use Rattle.oer_model.proofs.canonical.Again.{canonical_tells, equal_octets}
use Rattle.oer_model.proofs.laws.canonical_tells_filled.Goals as goal

pub returns-clause-canonical : goal.returns-clause-canonical
returns-clause-canonical c = canonical_tells

pub returns-clause-computed : goal.returns-clause-computed
returns-clause-computed c = equal_octets

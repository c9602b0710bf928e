use Rattle.oer_nesting.proofs.Canonical.{canonical_alike, filled_alike}
use Rattle.oer_nesting.proofs.laws.canonical.Goals as goal

pub returns-clause-filled : goal.returns-clause-filled
returns-clause-filled c = filled_alike

pub returns-clause-canonical : goal.returns-clause-canonical
returns-clause-canonical c = canonical_alike

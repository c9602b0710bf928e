use Rattle.oer_model.proofs.canonical.Given.{canon_given}
use Rattle.oer_model.proofs.canonical.Computed.{canon_computed}
use Rattle.oer_model.proofs.laws.computed_octets.Goals as goal

pub returns-clause-given : goal.returns-clause-given
returns-clause-given c = canon_given

pub returns-clause-computed : goal.returns-clause-computed
returns-clause-computed c = canon_computed

use Rattle.oer_model.proofs.canonical.Canonical.{canon_one}
use Rattle.oer_model.proofs.laws.one_canonical.Goals as goal

pub returns : goal.returns
returns c = record { one = canon_one }

use Rattle.oer_model.proofs.canonical.Again.{canonical_encodes}
use Rattle.oer_model.proofs.laws.canonical_encodes.Goals as goal

pub returns : goal.returns
returns c = record { encodes = canonical_encodes }

use Rattle.oer_ends.proofs.OpenEnds.{deeper, endless}
use Rattle.oer_ends.proofs.laws.opening.Goals as goal

pub returns : goal.returns
returns c = record { deeper = deeper; same = endless }

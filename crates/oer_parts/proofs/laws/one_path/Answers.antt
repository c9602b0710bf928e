use Rattle.oer_parts.proofs.Paths as paths
use Rattle.oer_parts.proofs.laws.one_path.Goals as goal

pub returns : goal.returns
returns c = paths.one_path

use Rattle.oer_module_syntax.proofs.Matching.{groups_matched}
use Rattle.oer_module_syntax.proofs.laws.groups_match.Goals as goal

pub returns : goal.returns
returns c = λ o k s r ts cl h g. groups_matched o k s r ts cl h g

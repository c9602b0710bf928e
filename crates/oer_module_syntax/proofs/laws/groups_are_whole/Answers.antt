use Rattle.oer_module_syntax.proofs.Whole.{groups_whole}
use Rattle.oer_module_syntax.proofs.laws.groups_are_whole.Goals as goal

pub returns : goal.returns
returns c = λ o k s rest ts cl h g e. groups_whole o k s rest ts cl h g e

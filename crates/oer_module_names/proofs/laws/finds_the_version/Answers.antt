use Rattle.oer_module_names.proofs.Asked.{finds_version}
use Rattle.oer_module_names.proofs.laws.finds_the_version.Goals as goal

pub returns : goal.returns
returns c = finds_version

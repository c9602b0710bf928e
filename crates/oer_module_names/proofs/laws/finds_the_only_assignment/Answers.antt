use Rattle.oer_module_names.proofs.Asked.{finds_only, only_finds}
use Rattle.oer_module_names.proofs.laws.finds_the_only_assignment.Goals as goal

pub returns : goal.returns
returns c ms w x = (finds_only ms w x, only_finds ms w x)

use Rattle.oer_module_names.proofs.Stands.{finds_stands, stands_finds}
use Rattle.oer_module_names.proofs.laws.finds_what_stands.Goals as goal

pub returns : goal.returns
returns c ms w k x = (finds_stands ms w k x, stands_finds ms w k x)

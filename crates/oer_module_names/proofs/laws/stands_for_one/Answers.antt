use Rattle.oer_module_names.proofs.Stands.{stand_for_one}
use Rattle.oer_module_names.proofs.laws.stands_for_one.Goals as goal

pub returns : goal.returns
returns c ms w k x y = stand_for_one ms w k x y

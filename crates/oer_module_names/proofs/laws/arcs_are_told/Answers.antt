use Rattle.oer_module_names.proofs.Spelled.{arcs_told}
use Rattle.oer_module_names.proofs.laws.arcs_are_told.Goals as goal

pub returns : goal.returns
returns c = arcs_told

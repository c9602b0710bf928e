use Rattle.oer_module_names.proofs.Asked.{finds_stands_in, stands_finds_in}
use Rattle.oer_module_names.proofs.laws.finds_what_stands_in.Goals as goal

pub returns : goal.returns
returns c ms f w k x = (finds_stands_in ms f w k x, stands_finds_in ms f w k x)

use Rattle.oer_module_nesting.proofs.Types.{free_canonical, free_encodes}
use Rattle.oer_module_nesting.proofs.laws.free_values.Goals as goal

pub returns-clause-encodes : goal.returns-clause-encodes
returns-clause-encodes c = free_encodes

pub returns-clause-canonical : goal.returns-clause-canonical
returns-clause-canonical c = free_canonical

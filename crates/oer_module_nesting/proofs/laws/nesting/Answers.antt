use Rattle.oer_module_nesting.proofs.Types.{is_deeper}
use Rattle.oer_module_nesting.proofs.laws.nesting.Goals as goal

pub returns : goal.returns
returns c = record { deeper = is_deeper }

use Rattle.std.proofs.Common.{None}
use Rattle.oer_module_names.proofs.Steps.{module_is_only, only_is_module}
use Rattle.oer_module_names.specs.Finding.{find_module}
use Rattle.oer_module_names.proofs.laws.finds_the_only_module.Goals as goal

pub returns : goal.returns
unfolding find_module
returns c ms f k = (module_is_only ms None f k, only_is_module ms None f k)

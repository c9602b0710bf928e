use Rattle.oer_meant_modules.proofs.Names.{names_meant}
use Rattle.oer_meant_modules.proofs.laws.names_have_the_types_that_they_mean.Goals as goal

pub returns : goal.returns
returns c =
    names_meant c.finds_the_only_assignment.ensures c.finds_the_only_module.ensures c.finds_what_stands.ensures c.what_is_found_is_meant.ensures

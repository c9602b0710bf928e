use Rattle.oer_modules.proofs.Taken.{gives_types}
use Rattle.oer_modules.proofs.laws.gives_types.Goals as goal

pub returns : goal.returns
returns c = gives_types c.finds_the_only_assignment.ensures

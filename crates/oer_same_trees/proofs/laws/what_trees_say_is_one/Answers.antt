use Rattle.oer_same_trees.proofs.One.{one_list_said, one_type_said}
use Rattle.oer_same_trees.proofs.laws.what_trees_say_is_one.Goals as goal

pub returns-clause-one : goal.returns-clause-one
returns-clause-one c = one_type_said

pub returns-clause-all : goal.returns-clause-all
returns-clause-all c = one_list_said

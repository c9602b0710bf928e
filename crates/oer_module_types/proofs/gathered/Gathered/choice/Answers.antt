use Rattle.std.proofs.Common.{◌∙◌, refl, Some}
use Rattle.oer_values.proofs.Shapes.{type_of-Choice}
use Rattle.oer_module_types.specs.Gathered.{choice_in, gathered_of}
use Rattle.oer_module_types.proofs.gathered.Gathered.choice.Goals as goal

pub returns-then-marked : goal.returns-then-marked
unfolding gathered_of choice_in
returns-then-marked c = type_of-Choice c.args.self.alternatives (Some c.args.self.later) ∙ rw c.if-marked.true refl

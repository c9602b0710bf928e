use Rattle.std.proofs.Common.{◌∙◌, refl, Some}
use Rattle.oer_values.proofs.Shapes.{type_of-Sequence}
use Rattle.oer_module_types.specs.Gathered.{gathered_of, sequence_in}
use Rattle.oer_module_types.proofs.gathered.Gathered.sequence.Goals as goal

pub returns-then-marked : goal.returns-then-marked
unfolding gathered_of sequence_in
returns-then-marked c = type_of-Sequence c.args.self.fields (Some c.args.self.additions) ∙ rw c.if-marked.true refl

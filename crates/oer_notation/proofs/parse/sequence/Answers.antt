use Rattle.std.proofs.Common.{◌∙◌, refl, Some}
use Rattle.oer_values.proofs.Shapes.{type_of-Sequence}
use Rattle.oer_notation.proofs.parse.sequence.Goals as goal

pub returns-then-body : goal.returns-then-body
returns-then-body c = type_of-Sequence c.args.body.root (Some c.args.body.added) ∙ rw c.if-body.true refl

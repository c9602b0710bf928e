use Rattle.std.proofs.Common.{◌∙◌, refl, Some}
use Rattle.oer_values.proofs.Shapes.{type_of-Choice}
use Rattle.oer_notation.proofs.parse.choice.Goals as goal

pub returns-then-found : goal.returns-then-found
returns-then-found c = type_of-Choice c.args.found.root (Some c.args.found.added) ∙ rw c.if-found.true refl

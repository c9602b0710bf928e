use Rattle.oer_same_trees.proofs.Placed.{placed_as}
use Rattle.oer_same_trees.proofs.Reading.{type_read}
use Rattle.oer_same_tokens.specs.Same.{same_tokens}
use Rattle.oer_same_trees.proofs.laws.types_are_read.Goals as goal

pub returns : goal.returns
returns c = λ levels known T ts ss rest end complete d u deep keeps ends. type_read known u end complete d levels ss rest deep (placed_as (same_tokens ts) ss keeps) ends

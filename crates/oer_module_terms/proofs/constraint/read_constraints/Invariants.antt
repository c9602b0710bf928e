use Rattle.std.proofs.Common.{[], map, not}
use Rattle.oer_module_syntax.specs.State.{state_of, at_sign}
use Rattle.oer_module_terms.proofs.Series.{SoFar}
use Rattle.oer_module_lexer.specs.declared.token.Sign.TheVariants.{OpenParenthesis}
use Rattle.oer_module_terms.specs.Constraints.{constraint_at}
use Rattle.oer_module_terms.specs.Trees.{constraint_of}
use Rattle.oer_module_terms.proofs.constraint.read_constraints.Given as goal

-- those found and those of what is left are all of them
abbrev pub invariant-more : goal.invariant-more
invariant-more l =
    SoFar (λ s. not (at_sign OpenParenthesis s)) (constraint_at l.levels)
    l.fn.cursor.spots.now [] (state_of l.fn.cursor)
    l.turn (map constraint_of l.found.items) (state_of l.cursor)

use Rattle.std.proofs.Common.{map}
use Rattle.oer_module_syntax.specs.State.{state_of, bump}
use Rattle.oer_module_terms.proofs.Series.{SoFar}
use Rattle.oer_module_lexer.specs.Token.{spots_of}
use Rattle.oer_module_terms.specs.Looks.{no_comma}
use Rattle.oer_module_terms.specs.Parameters.{parameter_at}
use Rattle.oer_module_terms.proofs.parameter.read_more.Given as goal

-- those found and those of what is left are all of them
abbrev pub invariant-more : goal.invariant-more
invariant-more l =
    SoFar no_comma (λ s. parameter_at (bump s))
    l.fn.cursor.spots.now (map (λ r. spots_of r.now) l.fn.found.items) (state_of l.fn.cursor)
    l.turn (map (λ r. spots_of r.now) l.found.items) (state_of l.cursor)

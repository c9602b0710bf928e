use Rattle.std.proofs.Common.{ℕ, ◌+◌, ◌*◌, map, not}
use Rattle.oer_module_syntax.specs.State.{state_of, bump}
use Rattle.oer_module_terms.proofs.Series.{SoFar}
use Rattle.oer_module_terms.specs.Constraints.{at_mark, between_at, set_at}
use Rattle.oer_module_terms.specs.Trees.{elements_of}
use Rattle.oer_module_terms.specs.declared.constraint.Mark.{Mark}
use Rattle.oer_module_terms.specs.declared.constraint.Mark.TheVariants.{Union, Intersection}
use Rattle.oer_module_terms.proofs.constraint.+reading.Given as goal

-- A union holds intersections.
abbrev within : Mark → ℕ
within Union = 4
within Intersection = 0

abbrev pub decreases-read_set : goal.decreases-read_set
decreases-read_set l = 30 * l.levels + 0

abbrev pub decreases-read_all_except : goal.decreases-read_all_except
decreases-read_all_except l = 30 * l.levels + 20

abbrev pub decreases-read_joined : goal.decreases-read_joined
decreases-read_joined l = 30 * l.levels + (within l.mark + 16)

abbrev pub decreases-read_more : goal.decreases-read_more
decreases-read_more l = 30 * l.levels + (within l.mark + 15)

abbrev pub decreases-read_between : goal.decreases-read_between
decreases-read_between l = 30 * l.levels + (within l.mark + 14)

abbrev pub decreases-read_excluding : goal.decreases-read_excluding
decreases-read_excluding l = 30 * l.levels + 12

abbrev pub decreases-read_element : goal.decreases-read_element
decreases-read_element l = 30 * l.levels + 11

abbrev pub decreases-read_nested : goal.decreases-read_nested
decreases-read_nested l = 30 * l.levels + 10

abbrev pub decreases-read_constraint : goal.decreases-read_constraint
decreases-read_constraint l = 30 * l.levels + 10

abbrev pub decreases-read_specified : goal.decreases-read_specified
decreases-read_specified l = 30 * l.levels + 9

abbrev pub decreases-read_subtype : goal.decreases-read_subtype
decreases-read_subtype l = 30 * l.levels + 8

abbrev pub decreases-read_extension : goal.decreases-read_extension
decreases-read_extension l = 30 * l.levels + 7

-- those found and those of what is left are all of them
abbrev pub invariant-read_more-more : goal.invariant-read_more-more
invariant-read_more-more l =
    SoFar (λ s. not (at_mark l.mark s)) (λ s. between_at l.levels (set_at l.levels) l.mark (bump s))
    l.fn.cursor.spots.now (map elements_of l.fn.found.items) (state_of l.fn.cursor)
    l.turn (map elements_of l.found.items) (state_of l.cursor)

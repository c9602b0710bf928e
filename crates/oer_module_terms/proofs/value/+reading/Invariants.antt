use Rattle.std.proofs.Common.{◌+◌, ◌*◌, map}
use Rattle.oer_module_syntax.specs.State.{state_of}
use Rattle.oer_module_terms.proofs.Series.{SoFar}
use Rattle.oer_module_terms.specs.Looks.{no_comma}
use Rattle.oer_module_terms.specs.Trees.{member_of, value_of}
use Rattle.oer_module_terms.specs.Values.{value_at, part_at, later_member_at, member_ends}
use Rattle.oer_module_terms.proofs.value.+reading.Given as goal

abbrev pub decreases-read_value : goal.decreases-read_value
decreases-read_value l = 20 * l.levels + 0

abbrev pub decreases-read_choice : goal.decreases-read_choice
decreases-read_choice l = 20 * l.levels + 10

abbrev pub decreases-read_braces : goal.decreases-read_braces
decreases-read_braces l = 20 * l.levels + 10

abbrev pub decreases-read_members : goal.decreases-read_members
decreases-read_members l = 20 * l.levels + 9

abbrev pub decreases-read_more_members : goal.decreases-read_more_members
decreases-read_more_members l = 20 * l.levels + 8

abbrev pub decreases-read_member : goal.decreases-read_member
decreases-read_member l = 20 * l.levels + 7

abbrev pub decreases-read_more_parts : goal.decreases-read_more_parts
decreases-read_more_parts l = 20 * l.levels + 6

abbrev pub decreases-read_part : goal.decreases-read_part
decreases-read_part l = 20 * l.levels + 5

-- those found and those of what is left are all of them
abbrev pub invariant-read_more_members-more : goal.invariant-read_more_members-more
invariant-read_more_members-more l =
    SoFar no_comma (later_member_at (value_at l.levels))
    l.fn.cursor.spots.now (map member_of l.fn.found.items) (state_of l.fn.cursor)
    l.turn (map member_of l.found.items) (state_of l.cursor)

abbrev pub invariant-read_more_parts-more : goal.invariant-read_more_parts-more
invariant-read_more_parts-more l =
    SoFar member_ends (part_at (value_at l.levels))
    l.fn.cursor.spots.now (map value_of l.fn.found.items) (state_of l.fn.cursor)
    l.turn (map value_of l.found.items) (state_of l.cursor)

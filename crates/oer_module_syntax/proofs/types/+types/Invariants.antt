use Rattle.std.proofs.Common.{◌≡◌, ◌≤◌, ◌+◌, ◌*◌, ◌-◌, suc, length, map, cond}
use Rattle.oer_module_syntax.specs.State.{state_of}
use Rattle.oer_module_syntax.specs.Tree.{element_of}
use Rattle.oer_module_syntax.specs.Types.{more_listed, one_at, type_at}
use Rattle.oer_module_syntax.proofs.types.+types.Given as goal

abbrev pub decreases-read_type : goal.decreases-read_type
decreases-read_type l = 30 * l.levels + 0

abbrev pub decreases-read_begun : goal.decreases-read_begun
decreases-read_begun l = 30 * l.levels + 20

abbrev pub decreases-read_unbuilt : goal.decreases-read_unbuilt
decreases-read_unbuilt l = 30 * l.levels + 19

abbrev pub decreases-read_small : goal.decreases-read_small
decreases-read_small l = 30 * l.levels + 18

abbrev pub decreases-read_selection : goal.decreases-read_selection
decreases-read_selection l = 30 * l.levels + 17

abbrev pub decreases-read_formed : goal.decreases-read_formed
decreases-read_formed l = 30 * l.levels + 19

abbrev pub decreases-read_tagged : goal.decreases-read_tagged
decreases-read_tagged l = 30 * l.levels + 20

abbrev pub decreases-read_sequence : goal.decreases-read_sequence
decreases-read_sequence l = 30 * l.levels + 18

abbrev pub decreases-read_choice : goal.decreases-read_choice
decreases-read_choice l = 30 * l.levels + 18

abbrev pub decreases-read_list : goal.decreases-read_list
decreases-read_list l = 30 * l.levels + 17

abbrev pub decreases-read_structure : goal.decreases-read_structure
decreases-read_structure l = 30 * l.levels + 17

abbrev pub decreases-read_braces : goal.decreases-read_braces
decreases-read_braces l = 30 * l.levels + 16

abbrev pub decreases-read_elements : goal.decreases-read_elements
decreases-read_elements l = 30 * l.levels + (cond l.grouped 6 12)

abbrev pub decreases-read_more : goal.decreases-read_more
decreases-read_more l = 30 * l.levels + (cond l.grouped 5 11)

abbrev pub decreases-read_one : goal.decreases-read_one
decreases-read_one l = 30 * l.levels + (cond l.grouped 4 10)

abbrev pub decreases-read_element : goal.decreases-read_element
decreases-read_element l = 30 * l.levels + 9

abbrev pub decreases-read_group : goal.decreases-read_group
decreases-read_group l = 30 * l.levels + 8

abbrev pub decreases-read_member : goal.decreases-read_member
decreases-read_member l = 30 * l.levels + 3

abbrev pub decreases-read_components_of : goal.decreases-read_components_of
decreases-read_components_of l = 30 * l.levels + 2

abbrev pub decreases-read_component : goal.decreases-read_component
decreases-read_component l = 30 * l.levels + 2

-- those found and those of what is left are all of them; each turn took a token
abbrev pub invariant-read_more-more : goal.invariant-read_more-more
invariant-read_more-more l =
    (more_listed (one_at (type_at l.levels) l.grouped l.alternatives) (suc (length (state_of l.fn.cursor).left)) (map element_of l.fn.found.items) (state_of l.fn.cursor)
    ≡ more_listed (one_at (type_at l.levels) l.grouped l.alternatives) (suc (length (state_of l.fn.cursor).left) - l.turn) (map element_of l.found.items) (state_of l.cursor))
    × (length (state_of l.cursor).left + l.turn ≤ length (state_of l.fn.cursor).left)

use Rattle.std.proofs.Common.{◌≡◌, ◌+◌, ◌*◌, ◌-◌}
use Rattle.oer_notation.specs.Reading.{components_more, alternatives_more, type_at, most, no_choices}
use Rattle.oer_value_notation.specs.State.{state_of}
use Rattle.oer_notation.specs.Soundness.{Tells, TellsMore, choices_have_fault, components_have_fault}
use Rattle.oer_notation.specs.Views.{known_by, components, choices}
use Rattle.oer_notation.proofs.parse.+types.Given as goal

abbrev pub decreases-read_addition : goal.decreases-read_addition
decreases-read_addition l = 10 * l.levels + 3

abbrev pub decreases-read_alternative : goal.decreases-read_alternative
decreases-read_alternative l = 10 * l.levels + 3

abbrev pub decreases-read_alternatives : goal.decreases-read_alternatives
decreases-read_alternatives l = 10 * l.levels + 5

abbrev pub decreases-read_body : goal.decreases-read_body
decreases-read_body l = 10 * l.levels + 6

abbrev pub decreases-read_choice : goal.decreases-read_choice
decreases-read_choice l = 10 * l.levels + 8

abbrev pub decreases-read_component : goal.decreases-read_component
decreases-read_component l = 10 * l.levels + 4

abbrev pub decreases-read_components : goal.decreases-read_components
decreases-read_components l = 10 * l.levels + 5

abbrev pub decreases-read_field : goal.decreases-read_field
decreases-read_field l = 10 * l.levels + 3

abbrev pub decreases-read_list : goal.decreases-read_list
decreases-read_list l = 10 * l.levels + 7

abbrev pub decreases-read_sequence : goal.decreases-read_sequence
decreases-read_sequence l = 10 * l.levels + 8

abbrev pub decreases-read_structure : goal.decreases-read_structure
decreases-read_structure l = 10 * l.levels + 7

abbrev pub decreases-read_type : goal.decreases-read_type
decreases-read_type l = 10 * l.levels

abbrev pub decreases-read_word_type : goal.decreases-read_word_type
decreases-read_word_type l = 10 * l.levels + 9

-- the components found and those of what is left are all of them
abbrev pub invariant-read_components-components : goal.invariant-read_components-components
invariant-read_components-components l = record {
  read : components_more (type_at (known_by l.types) l.levels) most (components l.fn.body) (state_of l.fn.cursor) ≡ components_more (type_at (known_by l.types) l.levels) (most - l.turn) (components l.body) (state_of l.cursor);
  sound : TellsMore l.fn.sound l.sound (components_have_fault (components l.fn.body)) (components_have_fault (components l.body));
}

abbrev pub invariant-read_alternatives-alternatives : goal.invariant-read_alternatives-alternatives
invariant-read_alternatives-alternatives l = record {
  read : alternatives_more (type_at (known_by l.types) l.levels) l.tagged most 0 no_choices (state_of l.fn.cursor) ≡ alternatives_more (type_at (known_by l.types) l.levels) l.tagged (most - l.place) l.place (choices l.found) (state_of l.cursor);
  sound : Tells l.fn.sound l.sound (choices_have_fault (choices l.found));
}

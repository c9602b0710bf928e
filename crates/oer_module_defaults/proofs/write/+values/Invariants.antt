use Rattle.std.proofs.Common.{◌≡◌, ◌+◌, ◌*◌, [], drop, map}
use Rattle.oer_module_names.specs.Views.{modules_in}
use Rattle.oer_module_terms.specs.Trees.{members_from, member_of}
use Rattle.oer_module_text.specs.Room.{room_of}
use Rattle.oer_module_values.specs.Views.{type_in}
use Rattle.oer_values.specs.ValueView.{value_of}
use Rattle.oer_module_defaults.specs.Defaults.{filled_at, items_at, value_at}
use Rattle.oer_module_defaults.specs.Filled.{empty, filled_of}
use Rattle.oer_module_defaults.specs.Views.{slot_of}
use Rattle.oer_module_defaults.proofs.write.+values.Given as goal

abbrev pub decreases-write_value : goal.decreases-write_value
decreases-write_value l = 20 * l.levels + 0

abbrev pub decreases-write_inner : goal.decreases-write_inner
decreases-write_inner l = 20 * l.levels + 1

abbrev pub decreases-write_slot : goal.decreases-write_slot
decreases-write_slot l = 20 * l.levels + 2

abbrev pub decreases-write_slots : goal.decreases-write_slots
decreases-write_slots l = 20 * l.levels + 3

abbrev pub decreases-write_components : goal.decreases-write_components
decreases-write_components l = 20 * l.levels + 4

abbrev pub decreases-write_sequence : goal.decreases-write_sequence
decreases-write_sequence l = 20 * l.levels + 5

abbrev pub decreases-write_item : goal.decreases-write_item
decreases-write_item l = 20 * l.levels + 2

abbrev pub decreases-write_items : goal.decreases-write_items
decreases-write_items l = 20 * l.levels + 3

abbrev pub decreases-write_members : goal.decreases-write_members
decreases-write_members l = 20 * l.levels + 4

abbrev pub decreases-write_list : goal.decreases-write_list
decreases-write_list l = 20 * l.levels + 5

abbrev pub decreases-write_alternative : goal.decreases-write_alternative
decreases-write_alternative l = 20 * l.levels + 4

abbrev pub decreases-write_choice : goal.decreases-write_choice
decreases-write_choice l = 20 * l.levels + 5

abbrev pub decreases-write_kind : goal.decreases-write_kind
decreases-write_kind l = 20 * l.levels + 6

abbrev pub decreases-write_given : goal.decreases-write_given
decreases-write_given l = 20 * l.levels + 7

abbrev pub decreases-write_source : goal.decreases-write_source
decreases-write_source l = 20 * l.levels + 8

abbrev pub decreases-write_governed : goal.decreases-write_governed
decreases-write_governed l = 20 * l.levels + 9

-- what is put together and written, and what is left behind it, are all
abbrev pub invariant-write_slots-loop-slot : goal.invariant-write_slots-loop-slot
invariant-write_slots-loop-slot l =
    let value = value_at (modules_in l.scope.names.now) l.levels in
    filled_at value l.«module» (map slot_of l.slots) empty (room_of l.fn.room)
    ≡ filled_at value l.«module» (map slot_of (drop l.slot-index l.slots)) (filled_of l.filled) (room_of l.room)

-- the same of the items of a list
abbrev pub invariant-write_items-loop-member : goal.invariant-write_items-loop-member
invariant-write_items-loop-member l =
    let value = value_at (modules_in l.scope.names.now) l.levels in
    items_at value l.place (type_in l.of) (members_from (map member_of l.members)) [] (room_of l.fn.room)
    ≡ items_at value l.place (type_in l.of) (members_from (map member_of (drop l.member-index l.members))) (map value_of l.found.items) (room_of l.room)

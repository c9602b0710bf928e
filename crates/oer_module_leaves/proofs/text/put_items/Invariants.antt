use Rattle.std.proofs.Common.{◌≡◌, drop, map}
use Rattle.oer_module_text.specs.Room.{room_of}
use Rattle.oer_module_leaves.specs.Numbered.{item_of}
use Rattle.oer_module_leaves.specs.Texts.{items_from}
use Rattle.oer_module_leaves.proofs.text.put_items.Given as goal

-- what is left is added to the room as it is now
abbrev pub invariant-loop-index : goal.invariant-loop-index
invariant-loop-index l =
    items_from l.«module» l.marker 0 (map item_of l.items) (room_of l.initial.room)
    ≡ items_from l.«module» l.marker l.index (map item_of (drop l.index l.items)) (room_of l.room)

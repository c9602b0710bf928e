use Rattle.std.proofs.Common.{◌≡◌, drop, map}
use Rattle.oer_module_defaults.proofs.Loops.{behind}
use Rattle.oer_module_defaults.specs.Arcs.{some_arcs}
use Rattle.oer_module_terms.specs.Trees.{parts_from, value_of}
use Rattle.oer_module_text.specs.Room.{room_of}
use Rattle.oer_module_defaults.proofs.arcs.write_each.Given as goal

-- the arcs found and those of what is left, which is yet to be written, are all of them
abbrev pub invariant-loop-part : goal.invariant-loop-part
invariant-loop-part l =
    some_arcs l.place (parts_from (map value_of l.parts)) (room_of l.fn.room)
    ≡ behind l.arcs.items (some_arcs l.place (parts_from (map value_of (drop l.part-index l.parts))) (room_of l.room))

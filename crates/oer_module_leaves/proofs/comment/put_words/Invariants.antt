use Rattle.std.proofs.Common.{◌≡◌, false, drop}
use Rattle.oer_module_text.specs.Room.{room_of}
use Rattle.oer_module_leaves.specs.Comments.{found_of, words_from}
use Rattle.oer_module_leaves.proofs.comment.put_words.Given as goal

-- what is left is added to the room as it is now
abbrev pub invariant-loop-kind : goal.invariant-loop-kind
invariant-loop-kind l =
    words_from (found_of l.found) l.opening false l.kinds (room_of l.initial.room)
    ≡ words_from (found_of l.found) l.opening l.some (drop l.kind-index l.kinds) (room_of l.room)

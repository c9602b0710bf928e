use Rattle.std.proofs.Common.{map}
use Rattle.oer_module_syntax.specs.State.{state_of, bump}
use Rattle.oer_module_terms.proofs.Series.{SoFar}
use Rattle.oer_module_terms.specs.Items.{items_end, item_at}
use Rattle.oer_module_terms.specs.Trees.{item_of}
use Rattle.oer_module_terms.proofs.item.read_more.Given as goal

-- those found and those of what is left are all of them
abbrev pub invariant-more : goal.invariant-more
invariant-more l =
    SoFar (items_end l.root) (λ s. item_at l.numbering (bump s))
    l.fn.cursor.spots.now (map item_of l.fn.found.items) (state_of l.fn.cursor)
    l.turn (map item_of l.found.items) (state_of l.cursor)

use Rattle.std.proofs.Common.{◌≡◌, ◌-◌, [], false}
use Rattle.oer_notation.specs.Reading.{items_more, most}
use Rattle.oer_value_notation.specs.State.{state_of}
use Rattle.oer_notation.specs.Views.{named}
use Rattle.oer_notation.proofs.parse.read_items.Given as goal

-- the items found and those of what is left are all of them
abbrev pub invariant-items : goal.invariant-items
invariant-items l = items_more l.numbered most 0 ([], false) (state_of l.fn.cursor) ≡ items_more l.numbered (most - l.place) l.place (named l.found) (state_of l.cursor)

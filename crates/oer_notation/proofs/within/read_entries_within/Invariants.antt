use Rattle.std.proofs.Common.{◌≡◌, ◌-◌, [], length, suc}
use Rattle.oer_value_notation.specs.State.{state_of}
use Rattle.oer_notation.specs.Views.{HasAllTypes, known_by}
use Rattle.oer_notation.specs.Within.{entries_within}
use Rattle.oer_notation.proofs.within.read_entries_within.Given as goal

abbrev pub invariant-entries : goal.invariant-entries
invariant-entries l = (entries_within (suc (length (state_of l.fn.cursor).left)) l.parts [] (state_of l.fn.cursor)
    ≡ entries_within (suc (length (state_of l.fn.cursor).left) - l.turn) l.left (known_by l.definitions) (state_of l.cursor)) × HasAllTypes l.definitions

use Rattle.std.proofs.Common.{◌≡◌, ◌-◌, [], length, suc}
use Rattle.oer_value_notation.specs.State.{state_of}
use Rattle.oer_notation.specs.Parsing.{entries_more}
use Rattle.oer_notation.specs.Views.{HasAllTypes, known_by}
use Rattle.oer_notation.proofs.types.read_entries.Given as goal

abbrev pub invariant-entries : goal.invariant-entries
invariant-entries l = (entries_more (suc (length (state_of l.fn.cursor).left)) [] (state_of l.fn.cursor) ≡ entries_more (suc (length (state_of l.fn.cursor).left) - l.turn) (known_by l.definitions) (state_of l.cursor)) × HasAllTypes l.definitions

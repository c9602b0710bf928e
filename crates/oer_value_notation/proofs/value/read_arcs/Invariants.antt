use Rattle.std.proofs.Common.{◌≡◌, ◌-◌, [], length, suc}
use Rattle.oer_value_notation.specs.State.{state_of}
use Rattle.oer_value_notation.specs.Values.{arcs_more}
use Rattle.oer_value_notation.proofs.value.read_arcs.Given as goal

abbrev pub invariant-arcs : goal.invariant-arcs
invariant-arcs l = arcs_more (suc (length (state_of l.fn.cursor).left)) [] (state_of l.fn.cursor) ≡ arcs_more (suc (length (state_of l.fn.cursor).left) - l.turn) l.arcs.items (state_of l.cursor)

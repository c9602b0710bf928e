use Rattle.std.proofs.Common.{◌≡◌, ◌-◌, [], length}
use Rattle.oer_module_syntax.specs.State.{state_of}
use Rattle.oer_module_names.specs.Identifiers.{arcs_from}
use Rattle.oer_module_names.proofs.identifier.take_arcs.Given as goal

-- the turns that are left read the same
abbrev pub invariant-loop-turn : goal.invariant-loop-turn
invariant-loop-turn l =
    arcs_from (length (state_of l.fn.cursor).left) [] (state_of l.fn.cursor)
    ≡ arcs_from (length (state_of l.fn.cursor).left - l.turn) l.arcs.items (state_of l.cursor)

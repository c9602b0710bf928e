use Rattle.std.proofs.Common.{◌≡◌, ◌≤◌, ◌+◌, ◌-◌, [], suc, length, map}
use Rattle.oer_module_syntax.specs.State.{state_of}
use Rattle.oer_module_syntax.specs.Tree.{assignment_of}
use Rattle.oer_module_syntax.specs.Modules.{many, ends_assignments, assignment_at}
use Rattle.oer_module_syntax.proofs.modules.read_assignments.Given as goal

-- those found and those of what is left are all of them; each turn took a token
abbrev pub invariant-more : goal.invariant-more
invariant-more l =
    (many ends_assignments (assignment_at l.levels) (suc (length (state_of l.fn.cursor).left)) [] (state_of l.fn.cursor)
    ≡ many ends_assignments (assignment_at l.levels) (suc (length (state_of l.fn.cursor).left) - l.turn) (map assignment_of l.found.items) (state_of l.cursor))
    × (length (state_of l.cursor).left + l.turn ≤ length (state_of l.fn.cursor).left)

use Rattle.std.proofs.Common.{◌≡◌, ◌≤◌, ◌+◌, ◌-◌, suc, length, map}
use Rattle.oer_module_syntax.specs.State.{state_of}
use Rattle.oer_module_syntax.specs.Tree.{symbol_of}
use Rattle.oer_module_syntax.specs.Types.{more_listed}
use Rattle.oer_module_syntax.specs.Modules.{symbol_at}
use Rattle.oer_module_syntax.proofs.modules.read_more_symbols.Given as goal

-- those found and those of what is left are all of them; each turn took a token
abbrev pub invariant-more : goal.invariant-more
invariant-more l =
    (more_listed symbol_at (suc (length (state_of l.fn.cursor).left)) (map symbol_of l.fn.found.items) (state_of l.fn.cursor)
    ≡ more_listed symbol_at (suc (length (state_of l.fn.cursor).left) - l.turn) (map symbol_of l.found.items) (state_of l.cursor))
    × (length (state_of l.cursor).left + l.turn ≤ length (state_of l.fn.cursor).left)

use Rattle.std.proofs.Common.{◌≡◌, ◌≤◌, ◌+◌, ◌-◌, suc, length, map}
use Rattle.oer_module_syntax.specs.State.{state_of}
use Rattle.oer_module_syntax.specs.Tree.{module_of}
use Rattle.oer_module_syntax.specs.Modules.{many, is_last, module_at}
use Rattle.oer_module_syntax.proofs.modules.read_more_modules.Given as goal

-- those found and those of what is left are all of them; each turn took a token
abbrev pub invariant-more : goal.invariant-more
invariant-more l =
    (many (is_last) (module_at l.levels) (suc (length (state_of l.fn.cursor).left)) (map module_of l.fn.found.items) (state_of l.fn.cursor)
    ≡ many (is_last) (module_at l.levels) (suc (length (state_of l.fn.cursor).left) - l.turn) (map module_of l.found.items) (state_of l.cursor))
    × (length (state_of l.cursor).left + l.turn ≤ length (state_of l.fn.cursor).left)

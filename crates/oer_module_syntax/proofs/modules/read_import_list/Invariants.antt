use Rattle.std.proofs.Common.{◌≡◌, ◌≤◌, ◌+◌, ◌-◌, [], suc, length, map}
use Rattle.oer_module_syntax.specs.State.{state_of, at_sign}
use Rattle.oer_module_lexer.specs.declared.token.Sign.TheVariants.{Semicolon}
use Rattle.oer_module_syntax.specs.Tree.{import_of}
use Rattle.oer_module_syntax.specs.Modules.{many, import_at}
use Rattle.oer_module_syntax.proofs.modules.read_import_list.Given as goal

-- those found and those of what is left are all of them; each turn took a token
abbrev pub invariant-more : goal.invariant-more
invariant-more l =
    (many (at_sign Semicolon) (import_at) (suc (length (state_of l.fn.cursor).left)) ([]) (state_of l.fn.cursor)
    ≡ many (at_sign Semicolon) (import_at) (suc (length (state_of l.fn.cursor).left) - l.turn) (map import_of l.found.items) (state_of l.cursor))
    × (length (state_of l.cursor).left + l.turn ≤ length (state_of l.fn.cursor).left)

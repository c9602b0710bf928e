-- Before tokens that a tree keeps.
use Rattle.std.specs.Prelude.{ℕ, List, [], ◌∷◌, true}
use Rattle.oer_module_lexer.specs.Token.{Spot}
use Rattle.oer_module_syntax.specs.State.{State}

-- the place of the last token, or the one given if there is none
abbrev pub last_place : List Spot → ℕ → ℕ
last_place [] at = at
last_place (t ∷ ts) at = last_place ts t.at

-- before the first of them; nothing is wrong behind the last
abbrev pub kept : List Spot → ℕ → State
kept ts at = record { left = ts; end = last_place ts at; complete = true }

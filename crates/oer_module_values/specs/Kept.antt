-- Before tokens that a tree keeps.
use Rattle.std.specs.Prelude.{List, true}
use Rattle.oer_module_lexer.specs.Token.{Spot}
use Rattle.oer_module_syntax.specs.State.{State, place_among}

-- before the first of them; a fault behind the last has the place of the first
abbrev pub kept : List Spot → State
kept ts = record { left = ts; end = place_among ts 0; complete = true }

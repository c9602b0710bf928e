-- The law of places in a text.
use Rattle.std.specs.Prelude.{◌≡◌, ℕ, List, Ok}
use Rattle.std.specs.List.{All}
use Rattle.oer_module_lexer.specs.Lexing.{lex}
use Rattle.oer_module_places.specs.Rising.{Rise}
use Rattle.oer_module_syntax.specs.Modules.{modules_of}
use Rattle.oer_module_syntax.specs.Tree.{Module}

-- The places of each module that is read of a text rise.
abbrev pub PlacesRise : Type 0
PlacesRise = (levels : ℕ) (text : List ℕ) (ms : List Module)
    → modules_of levels (record { left = (lex text).spots; end = (lex text).end; complete = (lex text).complete }) ≡ Ok ms
    → All (λ m. Rise 0 m.assignments) ms

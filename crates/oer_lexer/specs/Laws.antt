-- Laws of the tokens of a text.
use Rattle.std.specs.Prelude.{◌≡◌, ℕ, List, true}
use Rattle.oer_lexer.specs.FallsInto.{FallsInto}
use Rattle.oer_lexer.specs.Lexing.{lex}
use Rattle.oer_lexer.specs.Token.{Token, tokens}

-- where the whole text was read, it falls into the tokens that were read
abbrev pub LexSound : Type 0
LexSound = (bs : List ℕ) → (lex bs).complete ≡ true → FallsInto bs (tokens (lex bs).spots)

-- what falls into tokens is read as these, whole
abbrev pub LexComplete : Type 0
LexComplete = (bs : List ℕ) (ts : List Token) → FallsInto bs ts → (tokens (lex bs).spots ≡ ts) × ((lex bs).complete ≡ true)

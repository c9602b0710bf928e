-- Laws of the tokens of a text as modules have them.
use Rattle.std.specs.Prelude.{◌≡◌, ℕ, List, ◌++◌, true, false}
use Rattle.oer_lexer.specs.FallsInto.{FallsInto}
use Rattle.oer_lexer.specs.Token.{Token}
use Rattle.oer_module_lexer.specs.Lexing.{lex}
use Rattle.oer_same_tokens.specs.Same.{AreSame, same_tokens, has_odd_space, has_pair}

-- What falls into tokens of the notation is read as the same by the lexer of modules, whole.
abbrev pub SameTokens : Type 0
SameTokens = (bs : List ℕ) (ts : List Token) → FallsInto bs ts → has_odd_space bs ≡ false → has_pair ts ≡ false
    → AreSame (lex bs).spots ts × ((lex bs).complete ≡ true)

-- Tokens behind others stand for tokens behind those of the others.
abbrev pub SameBehind : Type 0
SameBehind = (ts us : List Token) → same_tokens (ts ++ us) ≡ same_tokens ts ++ same_tokens us

-- How long the tokens of a value after DEFAULT are.
use Rattle.std.specs.Prelude.{ℕ, suc, ◌+◌, List, [], ◌∷◌, length}
use Rattle.oer_module_lexer.specs.Token.{Spot, Token, bits, digits, field, number, real, sign, text, word}

-- the octets of a token; a sign counts as one
abbrev pub token_len : Token → ℕ
token_len (word w) = length w
token_len (field w) = length w
token_len (number w) = length w
token_len (real w) = length w
token_len (bits w) = length w
token_len (digits w) = length w
token_len (text w) = length w
token_len (sign s) = 1

-- of all of them, with a space for each
abbrev pub tokens_len : List Spot → ℕ
tokens_len [] = 0
tokens_len (s ∷ ss) = suc (token_len s.token + tokens_len ss)

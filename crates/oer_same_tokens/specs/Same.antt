-- The tokens of modules that stand for tokens of the notation of types.
use Rattle.std.specs.Prelude.{◌≡◌, ℕ, List, [], ◌∷◌, drop, map, Bool, true, false, ◌==◌, ◌&&◌, ◌||◌, if◌then◌else◌}
use Rattle.std.specs.List.{flat_map, list_any}
use Rattle.oer_lexer.specs.Characters.{starts_with, hyphen}
use Rattle.oer_lexer.specs.Token.{Token, word, number, bits, digits, text, sign}
use Rattle.oer_lexer.specs.declared.token.Sign.{Sign}
use Rattle.oer_lexer.specs.declared.token.Sign.TheVariants.{OpenBrace, CloseBrace, OpenParenthesis, CloseParenthesis, OpenBracket, CloseBracket, Comma, Range, Ellipsis, Assign}
use Rattle.oer_module_lexer.specs.Token as modules
use Rattle.oer_module_lexer.specs.declared.token.Sign as module_signs
use Rattle.oer_module_lexer.specs.declared.token.Sign.TheVariants as of_modules

-- ---- tokens

abbrev pub same_sign : Sign → module_signs.Sign
same_sign OpenBrace = of_modules.OpenBrace
same_sign CloseBrace = of_modules.CloseBrace
same_sign OpenParenthesis = of_modules.OpenParenthesis
same_sign CloseParenthesis = of_modules.CloseParenthesis
same_sign OpenBracket = of_modules.OpenBracket
same_sign CloseBracket = of_modules.CloseBracket
same_sign Comma = of_modules.Comma
same_sign Range = of_modules.Range
same_sign Ellipsis = of_modules.Ellipsis
same_sign Assign = of_modules.Assign

-- a number that begins with a hyphen is two tokens, the hyphen and the number behind it (X.680, 12.8 and 12.37)
abbrev pub same_number : List ℕ → List modules.Token
same_number w =
    if starts_with hyphen w then modules.sign of_modules.Hyphen ∷ modules.number (drop 1 w) ∷ []
    else modules.number w ∷ []

-- the tokens that a token is in modules: itself, but for such a number
abbrev pub same_token : Token → List modules.Token
same_token (word w) = modules.word w ∷ []
same_token (number w) = same_number w
same_token (bits w) = modules.bits w ∷ []
same_token (digits w) = modules.digits w ∷ []
same_token (text w) = modules.text w ∷ []
same_token (sign s) = modules.sign (same_sign s) ∷ []

abbrev pub same_tokens : List Token → List modules.Token
same_tokens ts = flat_map same_token ts

-- tokens of a module, with their places, that are those of the notation
abbrev pub AreSame : List modules.Spot → List Token → Type 0
AreSame ss ts = map (λ s. s.token) ss ≡ same_tokens ts

-- ---- where the two differ

-- Vertical tabulation and form feed: in modules they are white space and end a line (X.680, 12.1.6), and so a comment, which in
-- the notation goes on. Elsewhere the notation has them in comments between slashes and stars alone.
abbrev pub is_odd_space : ℕ → Bool
is_odd_space c = c == 11 || c == 12

abbrev pub has_odd_space : List ℕ → Bool
has_odd_space bs = list_any is_odd_space bs

abbrev pub is_opening : Token → Bool
is_opening (sign OpenBracket) = true
is_opening t = false

abbrev pub is_closing : Token → Bool
is_closing (sign CloseBracket) = true
is_closing t = false

-- the first of the tokens is one for which p holds
abbrev pub begins : (Token → Bool) → List Token → Bool
begins p [] = false
begins p (t ∷ ts) = p t

-- Two opening square brackets, one behind the other, or two closing ones: in modules these are one sign where nothing stands
-- between them (12.23 and 12.24). The grammar of the notation has them nowhere.
abbrev pub has_pair : List Token → Bool
has_pair [] = false
has_pair (t ∷ ts) = is_opening t && begins is_opening ts || (is_closing t && begins is_closing ts) || has_pair ts

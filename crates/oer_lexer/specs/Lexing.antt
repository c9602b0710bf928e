-- Reading the tokens of a text: a plain function on lists.
use Rattle.std.specs.Prelude.{ℕ, zero, suc, ◌+◌, List, [], ◌∷◌, ◌==◌, nat_lt, length, take, drop, Bool, true, false, ◌&&◌, ◌||◌, Option, Some, None, option_map, if◌then◌else◌}
use Rattle.std.specs.Char.{is_ascii_alphabetic, is_ascii_digit, is_ascii_hexdigit}
use Rattle.oer_lexer.specs.Characters.{is_space, is_line_end, is_letter_or_digit, is_first_digit, is_bit, starts, starts_with, starts_with_two, hyphen, quote, double_quote, star, slash}
use Rattle.oer_lexer.specs.Token.{Token, sign, Spot, token_by}
use Rattle.oer_lexer.specs.declared.token.Kind.TheVariants.{Word, Number, Bits, Digits, Text}
use Rattle.oer_lexer.specs.declared.token.Sign.{Sign}
use Rattle.oer_lexer.specs.declared.token.Sign.TheVariants.{OpenBrace, CloseBrace, OpenParenthesis, CloseParenthesis, OpenBracket, CloseBracket, Comma, Range, Ellipsis, Assign}
use Rattle.oer_lexer.specs.declared.lengths.Digit.{Digit}
use Rattle.oer_lexer.specs.declared.lengths.Digit.TheVariants.{Decimal, Hexadecimal, Binary}
use Rattle.oer_lexer.specs.declared.lexing.Step.{Step}
use Rattle.oer_lexer.specs.declared.lexing.Step.TheVariants as step

-- so many more, if any
abbrev pub plus : ℕ → Option ℕ → Option ℕ
plus k o = option_map (λ n. k + n) o

-- ---- lengths

-- whether a word goes on here
abbrev pub word_goes_on : List ℕ → Bool
word_goes_on [] = false
word_goes_on (c ∷ cs) = is_letter_or_digit c || (c == hyphen && starts is_letter_or_digit cs)

-- how many bytes at the front belong to the word that began before
unfoldable pub word_len : List ℕ → ℕ
word_len [] = 0
word_len (c ∷ cs) = if word_goes_on (c ∷ cs) then suc (word_len cs) else 0

abbrev pub is_digit : Digit → ℕ → Bool
is_digit Decimal c = is_ascii_digit c
is_digit Hexadecimal c = is_ascii_hexdigit c
is_digit Binary c = is_bit c

-- how many such digits stand at the front
unfoldable pub digits_len : Digit → List ℕ → ℕ
digits_len d [] = 0
digits_len d (c ∷ cs) = if is_digit d c then suc (digits_len d cs) else 0

-- a comment ends here: at two hyphens, a line's end or the text's end
abbrev pub line_ends : List ℕ → Bool
line_ends [] = true
line_ends (c ∷ cs) = is_line_end c || (c == hyphen && starts_with hyphen cs)

abbrev pub line_end_len : List ℕ → ℕ
line_end_len [] = 0
line_end_len (c ∷ cs) = if c == hyphen then 2 else 1

-- how long a comment is behind its two hyphens, with its end
unfoldable pub line_len : List ℕ → ℕ
line_len [] = 0
line_len (c ∷ cs) = if line_ends (c ∷ cs) then line_end_len (c ∷ cs) else suc (line_len cs)

abbrev pub close : (ℕ → Option ℕ) → ℕ → Option ℕ
close more zero = Some 2
close more (suc d) = plus 2 (more d)

-- How long a comment between slashes and stars is behind its opening, with its end, if it has one. The number counts
-- the comments around it.
unfoldable pub block_len : List ℕ → ℕ → Option ℕ
block_len [] d = None
block_len (c ∷ []) d = None
block_len (c ∷ e ∷ es) d =
    if c == star && e == slash then close (block_len es) d
    else if c == slash && e == star then plus 2 (block_len es (suc d))
    else plus 1 (block_len (e ∷ es) d)

-- how long a text is behind its opening quote, with its closing one, if it has one
unfoldable pub text_len : List ℕ → Option ℕ
text_len [] = None
text_len (c ∷ []) = if c == double_quote then Some 1 else None
text_len (c ∷ d ∷ ds) =
    if c == double_quote then (if d == double_quote then plus 2 (text_len ds) else Some 1)
    else if nat_lt c 32 then None
    else plus 1 (text_len (d ∷ ds))

-- how long the number at the front is, and 0 where there is none
unfoldable pub number_len : List ℕ → ℕ
number_len [] = 0
number_len (c ∷ cs) =
    if c == 48 then 1
    else if is_ascii_digit c then suc (digits_len Decimal cs)
    else if c == hyphen && starts is_first_digit cs then suc (digits_len Decimal cs)
    else 0

-- ---- steps

-- the sign behind a point
abbrev pub dots : List ℕ → Option Sign
dots cs = if starts_with 46 cs then (if starts_with 46 (drop 1 cs) then Some Ellipsis else Some Range) else None

-- the sign behind a colon
abbrev pub colons : List ℕ → Option Sign
colons cs = if starts_with_two 58 61 cs then Some Assign else None

unfoldable pub sign_at : List ℕ → Option Sign
sign_at [] = None
sign_at (c ∷ cs) =
    if c == 123 then Some OpenBrace
    else if c == 125 then Some CloseBrace
    else if c == 40 then Some OpenParenthesis
    else if c == 41 then Some CloseParenthesis
    else if c == 91 then Some OpenBracket
    else if c == 93 then Some CloseBracket
    else if c == 44 then Some Comma
    else if c == 46 then dots cs
    else if c == 58 then colons cs
    else None

abbrev pub sign_len : Sign → ℕ
sign_len OpenBrace = 1
sign_len CloseBrace = 1
sign_len OpenParenthesis = 1
sign_len CloseParenthesis = 1
sign_len OpenBracket = 1
sign_len CloseBracket = 1
sign_len Comma = 1
sign_len Range = 2
sign_len Ellipsis = 3
sign_len Assign = 3

abbrev pub sign_step : Option Sign → Step
sign_step None = step.Bad
sign_step (Some s) = step.Sign s

-- a number, unless a letter or digit follows it
abbrev pub number_step : ℕ → List ℕ → Step
number_step n bs = if n == 0 then sign_step (sign_at bs) else if starts is_letter_or_digit (drop n bs) then step.Bad else step.Take Number n

-- what stands behind a single quote: digits, a second quote and a letter
abbrev pub quote_step : List ℕ → Step
quote_step cs =
    if starts_with_two quote 72 (drop (digits_len Hexadecimal cs) cs) then step.Take Digits (3 + digits_len Hexadecimal cs)
    else if starts_with_two quote 66 (drop (digits_len Binary cs) cs) then step.Take Bits (3 + digits_len Binary cs)
    else step.Bad

abbrev pub text_step : Option ℕ → Step
text_step None = step.Bad
text_step (Some n) = step.Take Text (1 + n)

abbrev pub block_step : Option ℕ → Step
block_step None = step.Bad
block_step (Some n) = step.Skip (2 + n)

-- what stands at the front
unfoldable pub step_at : List ℕ → Step
step_at [] = step.Bad
step_at (c ∷ cs) =
    if is_space c then step.Skip 1
    else if c == hyphen && starts_with hyphen cs then step.Skip (2 + line_len (drop 1 cs))
    else if c == slash && starts_with star cs then block_step (block_len (drop 1 cs) 0)
    else if is_ascii_alphabetic c then step.Take Word (1 + word_len cs)
    else if c == quote then quote_step cs
    else if c == double_quote then text_step (text_len cs)
    else number_step (number_len (c ∷ cs)) (c ∷ cs)

-- the token that a step takes, if it is one, and how many bytes
abbrev pub front_by : Step → List ℕ → Option (Option Token × ℕ)
front_by (step.Skip k) bs = Some (None, k)
front_by (step.Take kind k) bs = Some (Some (token_by kind (take k bs)), k)
front_by (step.Sign s) bs = Some (Some (sign s), sign_len s)
front_by step.Bad bs = None

unfoldable pub front_at : List ℕ → Option (Option Token × ℕ)
front_at bs = front_by (step_at bs) bs

-- ---- all tokens

-- the tokens, the byte at which they end, and whether that is the text's end
pub record Lexed : Type 0 where
  pub spots : List Spot
  pub end : ℕ
  pub complete : Bool

abbrev pub is_over : List ℕ → Bool
is_over [] = true
is_over (c ∷ cs) = false

abbrev pub ended : ℕ → List ℕ → Lexed
ended at bs = record { spots = []; end = at; complete = is_over bs }

abbrev pub with_spot : ℕ → Token → Lexed → Lexed
with_spot at t l = record { spots = record { at = at; token = t } ∷ l.spots; end = l.end; complete = l.complete }

abbrev pub go : (ℕ → List ℕ → Lexed) → ℕ → List ℕ → Option (Option Token × ℕ) → Lexed
go more at bs None = ended at bs
go more at bs (Some (None, k)) = more (at + k) (drop k bs)
go more at bs (Some (Some t, k)) = with_spot at t (more (at + k) (drop k bs))

-- The tokens from a place on. The first number bounds the steps; the count of the bytes is always enough.
unfoldable pub lex_from : ℕ → ℕ → List ℕ → Lexed
lex_from zero at bs = ended at bs
lex_from (suc n) at bs = go (lex_from n) at bs (front_at bs)

abbrev pub lex : List ℕ → Lexed
lex bs = lex_from (length bs) 0 bs

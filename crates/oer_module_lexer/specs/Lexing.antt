-- Reading the tokens of a text (X.680, clause 12): a plain function on lists.
use Rattle.std.specs.Prelude.{ℕ, zero, suc, ◌+◌, List, [], ◌∷◌, ◌==◌, nat_lt, length, take, drop, Bool, true, false, not, ◌&&◌, ◌||◌, Option, Some, None, if◌then◌else◌}
use Rattle.std.specs.Char.{is_ascii_alphabetic, is_ascii_digit, is_ascii_hexdigit}
use Rattle.oer_lexer.specs.Characters.{is_letter_or_digit, is_bit, starts, starts_with, starts_with_two, hyphen, quote, double_quote, star, slash}
use Rattle.oer_lexer.specs.Lexing.{plus, word_len, block_len, is_over}
use Rattle.oer_module_lexer.specs.Token.{Token, sign, Spot, token_by}
use Rattle.oer_module_lexer.specs.declared.token.Kind.TheVariants.{Word, Field, Number, Real, Bits, Digits, Text}
use Rattle.oer_module_lexer.specs.declared.token.Sign.{Sign}
use Rattle.oer_module_lexer.specs.declared.token.Sign.TheVariants.{OpenBrace, CloseBrace, OpenParenthesis, CloseParenthesis, OpenBracket, CloseBracket, OpenGroup, CloseGroup, Less, Greater, Comma, Semicolon, Point, Range, Ellipsis, Colon, Assign, Equals, Hyphen, At, Bar, Exclamation, Caret}
use Rattle.oer_module_lexer.specs.declared.lengths.Class.{Class}
use Rattle.oer_module_lexer.specs.declared.lengths.Class.TheVariants.{Decimal, Hexadecimal, Binary}
use Rattle.oer_module_lexer.specs.declared.lexing.Step.{Step}
use Rattle.oer_module_lexer.specs.declared.lexing.Step.TheVariants as step

-- ---- characters

-- the ends of a line (12.1.6): line feed, vertical tabulation, form feed and carriage return
abbrev pub is_line_end : ℕ → Bool
is_line_end c = c == 10 || c == 11 || c == 12 || c == 13

-- white space of one octet (12.1.6): space, tab, and the ends of a line
abbrev pub is_space : ℕ → Bool
is_space c = c == 32 || c == 9 || is_line_end c

-- ---- lengths. Words and comments between slashes and stars are those of the notation of types.

abbrev pub is_of : Class → ℕ → Bool
is_of Decimal c = is_ascii_digit c
is_of Hexadecimal c = is_ascii_hexdigit c || is_space c
is_of Binary c = is_bit c || is_space c

-- how many characters of the class stand at the front
unfoldable pub run_len : Class → List ℕ → ℕ
run_len d [] = 0
run_len d (c ∷ cs) = if is_of d c then suc (run_len d cs) else 0

-- a decimal point and the digits behind it; two points are none (12.9)
abbrev pub point_len : List ℕ → ℕ
point_len bs = if not (starts_with 46 bs) || starts_with 46 (drop 1 bs) then 0 else 1 + run_len Decimal (drop 1 bs)

-- e or E
abbrev pub is_exponent : ℕ → Bool
is_exponent c = c == 101 || c == 69

-- what stands before the digits of an exponent: the letter, and a sign perhaps
abbrev pub exponent_start : List ℕ → ℕ
exponent_start bs = if not (starts is_exponent bs) then 0 else if starts_with hyphen (drop 1 bs) then 2 else 1

-- an exponent (12.9)
abbrev pub exponent_len : List ℕ → ℕ
exponent_len bs =
    if exponent_start bs == 0 || run_len Decimal (drop (exponent_start bs) bs) == 0 then 0
    else exponent_start bs + run_len Decimal (drop (exponent_start bs) bs)

-- the decimal point and the exponent behind the digits of a real number
abbrev pub number_tail : List ℕ → ℕ
number_tail bs = point_len bs + exponent_len (drop (point_len bs) bs)

-- a comment ends here: at two hyphens, a line's end or the text's end (12.6.3)
abbrev pub line_ends : List ℕ → Bool
line_ends [] = true
line_ends (c ∷ cs) = is_line_end c || (c == hyphen && starts_with hyphen cs)

abbrev pub line_end_len : List ℕ → ℕ
line_end_len [] = 0
line_end_len (c ∷ cs) = if c == hyphen then 2 else 1

-- how long a comment is behind its two hyphens, with its end
unfoldable pub line_len : List ℕ → ℕ
line_len [] = 0
line_len (c ∷ cs) = if line_ends (c ∷ cs) then line_end_len (c ∷ cs) else suc (line_len cs)

-- How long a text is behind its opening quote, with its closing one, if it has one (12.14). Two quotes stand for one.
unfoldable pub text_len : List ℕ → Option ℕ
text_len [] = None
text_len (c ∷ []) = if c == double_quote then Some 1 else None
text_len (c ∷ d ∷ ds) =
    if c == double_quote then (if d == double_quote then plus 2 (text_len ds) else Some 1)
    else plus 1 (text_len (d ∷ ds))

-- ---- steps

-- the sign behind a point: the longest that fits (12.21, 12.22)
abbrev pub dots : List ℕ → Sign
dots cs = if starts_with 46 cs then (if starts_with 46 (drop 1 cs) then Ellipsis else Range) else Point

-- the sign behind a colon (12.20)
abbrev pub colons : List ℕ → Sign
colons cs = if starts_with_two 58 61 cs then Assign else Colon

-- the sign behind an opening bracket (12.23)
abbrev pub brackets : List ℕ → Sign
brackets cs = if starts_with 91 cs then OpenGroup else OpenBracket

-- the sign behind a closing bracket (12.24)
abbrev pub closing : List ℕ → Sign
closing cs = if starts_with 93 cs then CloseGroup else CloseBracket

-- a one-character sign that starts no longer sign (12.37)
unfoldable pub single : ℕ → Option Sign
single c =
    if c == 123 then Some OpenBrace
    else if c == 125 then Some CloseBrace
    else if c == 40 then Some OpenParenthesis
    else if c == 41 then Some CloseParenthesis
    else if c == 60 then Some Less
    else if c == 62 then Some Greater
    else if c == 44 then Some Comma
    else if c == 59 then Some Semicolon
    else if c == 61 then Some Equals
    else if c == 45 then Some Hyphen
    else if c == 64 then Some At
    else if c == 124 then Some Bar
    else if c == 33 then Some Exclamation
    else if c == 94 then Some Caret
    else None

abbrev pub sign_at : ℕ → List ℕ → Option Sign
sign_at c cs =
    if c == 46 then Some (dots cs)
    else if c == 58 then Some (colons cs)
    else if c == 91 then Some (brackets cs)
    else if c == 93 then Some (closing cs)
    else single c

abbrev pub sign_len : Sign → ℕ
sign_len OpenBrace = 1
sign_len CloseBrace = 1
sign_len OpenParenthesis = 1
sign_len CloseParenthesis = 1
sign_len OpenBracket = 1
sign_len CloseBracket = 1
sign_len OpenGroup = 2
sign_len CloseGroup = 2
sign_len Less = 1
sign_len Greater = 1
sign_len Comma = 1
sign_len Semicolon = 1
sign_len Point = 1
sign_len Range = 2
sign_len Ellipsis = 3
sign_len Colon = 1
sign_len Assign = 3
sign_len Equals = 1
sign_len Hyphen = 1
sign_len At = 1
sign_len Bar = 1
sign_len Exclamation = 1
sign_len Caret = 1

abbrev pub sign_step : Option Sign → Step
sign_step None = step.Bad
sign_step (Some s) = step.Sign s

-- A number that begins with so many digits, unless a letter or digit follows it: one with a point or an exponent is real
-- (12.9), and one without has no leading zero (12.8).
abbrev pub number_step : ℕ → List ℕ → Step
number_step n bs =
    if starts is_letter_or_digit (drop (n + number_tail (drop n bs)) bs) then step.Bad
    else if nat_lt 0 (number_tail (drop n bs)) then step.Take Real (n + number_tail (drop n bs))
    else if nat_lt 1 n && starts_with 48 bs then step.Bad
    else step.Take Number n

-- what stands behind a single quote: digits with white space between them, a second quote and a letter (12.10, 12.12)
abbrev pub quote_step : List ℕ → Step
quote_step cs =
    if starts_with_two quote 72 (drop (run_len Hexadecimal cs) cs) then step.Take Digits (3 + run_len Hexadecimal cs)
    else if starts_with_two quote 66 (drop (run_len Binary cs) cs) then step.Take Bits (3 + run_len Binary cs)
    else step.Bad

abbrev pub text_step : Option ℕ → Step
text_step None = step.Bad
text_step (Some n) = step.Take Text (1 + n)

abbrev pub block_step : Option ℕ → Step
block_step None = step.Bad
block_step (Some n) = step.Skip (2 + n)

-- the token that begins with this character
unfoldable pub token_step : ℕ → List ℕ → Step
token_step c cs =
    if is_ascii_alphabetic c then step.Take Word (1 + word_len cs)
    else if is_ascii_digit c then number_step (run_len Decimal (c ∷ cs)) (c ∷ cs)
    else if c == 38 && starts is_ascii_alphabetic cs then step.Take Field (2 + word_len (drop 1 cs))
    else if c == quote then quote_step cs
    else if c == double_quote then text_step (text_len cs)
    else sign_step (sign_at c cs)

-- what stands at the front: white space, as a no-break space is, a comment (12.6), or a token
unfoldable pub step_at : List ℕ → Step
step_at [] = step.Bad
step_at (c ∷ cs) =
    if is_space c then step.Skip 1
    else if c == 194 && starts_with 160 cs then step.Skip 2
    else if c == hyphen && starts_with hyphen cs then step.Skip (2 + line_len (drop 1 cs))
    else if c == slash && starts_with star cs then block_step (block_len (drop 1 cs) 0)
    else token_step c cs

-- the token that a step takes, if it is one, and how many bytes
abbrev pub front_by : Step → List ℕ → Option (Option Token × ℕ)
front_by (step.Skip k) bs = Some (None, k)
front_by (step.Take kind k) bs = Some (Some (token_by kind (take k bs)), k)
front_by (step.Sign s) bs = Some (Some (sign s), sign_len s)
front_by step.Bad bs = None

unfoldable pub front_at : List ℕ → Option (Option Token × ℕ)
front_at bs = front_by (step_at bs) bs

-- ---- all tokens

-- the tokens, the byte at which they end, and whether that is the text's end
pub record Lexed : Type 0 where
  pub spots : List Spot
  pub end : ℕ
  pub complete : Bool

abbrev pub ended : ℕ → List ℕ → Lexed
ended at bs = record { spots = []; end = at; complete = is_over bs }

abbrev pub with_spot : ℕ → Token → Lexed → Lexed
with_spot at t l = record { spots = record { at = at; token = t } ∷ l.spots; end = l.end; complete = l.complete }

abbrev pub go : (ℕ → List ℕ → Lexed) → ℕ → List ℕ → Option (Option Token × ℕ) → Lexed
go more at bs None = ended at bs
go more at bs (Some (None, k)) = more (at + k) (drop k bs)
go more at bs (Some (Some t, k)) = with_spot at t (more (at + k) (drop k bs))

-- The tokens from a place on. The first number bounds the steps; the count of the bytes is always enough.
unfoldable pub lex_from : ℕ → ℕ → List ℕ → Lexed
lex_from zero at bs = ended at bs
lex_from (suc n) at bs = go (lex_from n) at bs (front_at bs)

abbrev pub lex : List ℕ → Lexed
lex bs = lex_from (length bs) 0 bs

-- What a reader of tokens has before it, and its first steps: what is read and what is left, or the first fault.
use Rattle.std.specs.Prelude.{◌≡◌, ℕ, List, [], ◌∷◌, drop, ◌==◌, Bool, true, false, Option, Some, None, Result, Ok, Err, if◌then◌else◌}
use Rattle.std.specs.Str.{bytes_eq}
use Rattle.oer_module_lexer.specs.Token.{Token, word, field, number, real, bits, digits, text, sign, Spot, spots_of}
use Rattle.oer_module_lexer.specs.declared.lexing.Tokens.{Tokens}
use Rattle.oer_module_lexer.specs.declared.token.Sign.{Sign}
use Rattle.oer_module_lexer.specs.declared.token.Sign.TheVariants.{OpenBrace, CloseBrace, OpenParenthesis, CloseParenthesis, OpenBracket, CloseBracket, OpenGroup, CloseGroup, Less, Greater, Comma, Semicolon, Point, Range, Ellipsis, Colon, Assign, Equals, Hyphen, At, Bar, Exclamation, Caret}
use Rattle.oer_module_syntax.specs.Words.{keyword_text, is_identifier, is_reference}
use Rattle.oer_module_syntax.specs.declared.cursor.Cursor.{Cursor}
use Rattle.oer_module_syntax.specs.declared.fault.Fault.{Fault}
use Rattle.oer_module_syntax.specs.declared.fault.Sought.{Sought}
use Rattle.oer_module_syntax.specs.declared.fault.Sought.TheVariants as sought
use Rattle.oer_module_syntax.specs.declared.fault.Why.{Why}
use Rattle.oer_module_syntax.specs.declared.fault.Why.TheVariants as why
use Rattle.oer_module_syntax.specs.declared.word.Keyword.{Keyword}

-- the tokens that are left, the byte at which they end, and whether that is the text's end
pub record State : Type 0 where
  pub left : List Spot
  pub end : ℕ
  pub complete : Bool

abbrev pub state_of : Cursor → State
state_of c = record { left = spots_of c.spots.now; end = c.end; complete = c.complete }

-- before the first of the tokens
abbrev pub start : Tokens → State
start t = record { left = spots_of t.spots.items; end = t.end; complete = t.complete }

-- what is read, and what is left
abbrev pub Read : Type 0 → Type 0
Read A = Result (A × State) Fault

infixl 10 ◌>>=◌
abbrev pub ◌>>=◌ : {A B : Type 0} → Result A Fault → (A → Result B Fault) → Result B Fault
(Ok x) >>= f = f x
(Err e) >>= f = Err e

-- What a function returned, seen by view, is what reading gives, unless memory ran out.
abbrev pub IsReading : {X Y : Type 0} → (X → Y) → Result X Fault → Result Y Fault → Type 0
IsReading view (Ok x) read = read ≡ Ok (view x)
IsReading view (Err e) read = (e.why ≡ why.Memory → ⊥) → read ≡ Err e

abbrev pub first_of : List Spot → Option Token
first_of [] = None
first_of (t ∷ ts) = Some t.token

-- the next token
abbrev pub first : State → Option Token
first s = first_of s.left

-- the fault where the tokens end: where the text goes on there, no token begins or has an end
abbrev pub end_fault : Why → State → Fault
end_fault w s = record { at = s.end; why = if s.complete then w else why.Token }

abbrev pub fault_among : Why → List Spot → State → Fault
fault_among w [] s = end_fault w s
fault_among w (t ∷ ts) s = record { at = t.at; why = w }

-- the fault at the next token
abbrev pub fault : Why → State → Fault
fault w s = fault_among w s.left s

-- the next token isn't what is sought
abbrev pub expected : {A : Type 0} → Sought → State → Read A
expected x s = Err (fault (why.Expected x) s)

abbrev pub place_among : List Spot → ℕ → ℕ
place_among [] end = end
place_among (t ∷ ts) end = t.at

-- the place of the next token
abbrev pub place : State → ℕ
place s = place_among s.left s.end

-- past so many tokens
abbrev pub past : ℕ → State → State
past n s = record { left = drop n s.left; end = s.end; complete = s.complete }

-- past the next token
abbrev pub bump : State → State
bump s = past 1 s

-- a number for each sign, by which signs are compared
abbrev pub sign_number : Sign → ℕ
sign_number OpenBrace = 0
sign_number CloseBrace = 1
sign_number OpenParenthesis = 2
sign_number CloseParenthesis = 3
sign_number OpenBracket = 4
sign_number CloseBracket = 5
sign_number OpenGroup = 6
sign_number CloseGroup = 7
sign_number Less = 8
sign_number Greater = 9
sign_number Comma = 10
sign_number Semicolon = 11
sign_number Point = 12
sign_number Range = 13
sign_number Ellipsis = 14
sign_number Colon = 15
sign_number Assign = 16
sign_number Equals = 17
sign_number Hyphen = 18
sign_number At = 19
sign_number Bar = 20
sign_number Exclamation = 21
sign_number Caret = 22

abbrev pub same_sign : Sign → Sign → Bool
same_sign a b = sign_number a == sign_number b

abbrev pub is_sign : Sign → Option Token → Bool
is_sign s (Some (sign u)) = same_sign s u
is_sign s _ = false

-- the next token is this sign
abbrev pub at_sign : Sign → State → Bool
at_sign g s = is_sign g (first s)

abbrev pub is_word : List ℕ → Option Token → Bool
is_word v (Some (word w)) = bytes_eq w v
is_word v _ = false

-- the next token is this word
abbrev pub at_keyword : Keyword → State → Bool
at_keyword k s = is_word (keyword_text k) (first s)

unfoldable pub skip_sign : Sign → State → Read (Unit {0})
skip_sign g s = if at_sign g s then Ok (tt, bump s) else expected (sought.Sign g) s

unfoldable pub skip_keyword : Keyword → State → Read (Unit {0})
skip_keyword k s = if at_keyword k s then Ok (tt, bump s) else expected (sought.Keyword k) s

abbrev pub identifier_by : Option Token → State → Read (List ℕ)
identifier_by (Some (word w)) s = if is_identifier w then Ok (w, bump s) else expected sought.Identifier s
identifier_by _ s = expected sought.Identifier s

unfoldable pub identifier_at : State → Read (List ℕ)
identifier_at s = identifier_by (first s) s

abbrev pub reference_by : Sought → Option Token → State → Read (List ℕ)
reference_by x (Some (word w)) s = if is_reference w then Ok (w, bump s) else expected x s
reference_by x _ s = expected x s

unfoldable pub reference_at : Sought → State → Read (List ℕ)
reference_at x s = reference_by x (first s) s

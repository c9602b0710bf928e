-- What a reader of tokens has before it, and its first steps: what is read and what is left, or the first fault.
use Rattle.std.specs.Prelude.{◌≡◌, ℕ, ◌-◌, List, [], ◌∷◌, drop, ◌==◌, Bool, false, Option, Some, None, Result, Ok, Err, if◌then◌else◌}
use Rattle.std.specs.Str.{bytes_eq}
use Rattle.oer_lexer.specs.Token.{Token, word, number, bits, digits, text, sign, Spot, spots_of}
use Rattle.oer_lexer.specs.declared.token.Sign.{Sign}
use Rattle.oer_lexer.specs.declared.token.Sign.TheVariants.{OpenBrace, CloseBrace, OpenParenthesis, CloseParenthesis, OpenBracket, CloseBracket, Comma, Range, Ellipsis, Assign}
use Rattle.oer_model.specs.declared.fault.SchemaFault.TheVariants.{TooManyParts}
use Rattle.oer_value_notation.specs.Words.{is_id}
use Rattle.oer_value_notation.specs.declared.cursor.Cursor.{Cursor}
use Rattle.oer_value_notation.specs.declared.fault.TextFault.{TextFault}
use Rattle.oer_value_notation.specs.declared.fault.TextWhy.{TextWhy}
use Rattle.oer_value_notation.specs.declared.fault.TextWhy.TheVariants as why

-- the tokens that are left, how many parts the type may still have, and the fault where the tokens end
pub record State : Type 0 where
  pub left : List Spot
  pub parts : ℕ
  pub stop : TextFault

abbrev pub state_of : Cursor → State
state_of c = record { left = spots_of c.spots.now; parts = c.parts; stop = c.stop }

-- what is read, and what is left
abbrev pub Read : Type 0 → Type 0
Read A = Result (A × State) TextFault

infixl 10 ◌>>=◌
abbrev pub ◌>>=◌ : {A B : Type 0} → Result A TextFault → (A → Result B TextFault) → Result B TextFault
(Ok x) >>= f = f x
(Err e) >>= f = Err e

-- What a function returned, seen by view, is what reading gives, unless memory ran out.
abbrev pub IsReading : {X Y : Type 0} → (X → Y) → Result X TextFault → Result Y TextFault → Type 0
IsReading view (Ok x) read = read ≡ Ok (view x)
IsReading view (Err e) read = (e.why ≡ why.Memory → ⊥) → read ≡ Err e

abbrev pub first_of : List Spot → Option Token
first_of [] = None
first_of (t ∷ ts) = Some t.token

-- the next token
abbrev pub first : State → Option Token
first s = first_of s.left

abbrev pub fault_among : TextWhy → List Spot → TextFault → TextFault
fault_among w [] stop = stop
fault_among w (t ∷ ts) stop = record { at = t.at; why = w }

-- the fault at the next token
abbrev pub fault : TextWhy → State → TextFault
fault w s = fault_among w s.left s.stop

-- past the next token
abbrev pub bump : State → State
bump s = record { left = drop 1 s.left; parts = s.parts; stop = s.stop }

-- a number for each sign, by which signs are compared
abbrev pub sign_number : Sign → ℕ
sign_number OpenBrace = 0
sign_number CloseBrace = 1
sign_number OpenParenthesis = 2
sign_number CloseParenthesis = 3
sign_number OpenBracket = 4
sign_number CloseBracket = 5
sign_number Comma = 6
sign_number Range = 7
sign_number Ellipsis = 8
sign_number Assign = 9

abbrev pub same_sign : Sign → Sign → Bool
same_sign a b = sign_number a == sign_number b

abbrev pub is_sign : Sign → Option Token → Bool
is_sign s None = false
is_sign s (Some (word w)) = false
is_sign s (Some (number w)) = false
is_sign s (Some (bits w)) = false
is_sign s (Some (digits w)) = false
is_sign s (Some (text w)) = false
is_sign s (Some (sign u)) = same_sign s u

-- the next token is this sign
abbrev pub at_sign : Sign → State → Bool
at_sign g s = is_sign g (first s)

abbrev pub is_word : List ℕ → Option Token → Bool
is_word v None = false
is_word v (Some (word w)) = bytes_eq w v
is_word v (Some (number w)) = false
is_word v (Some (bits w)) = false
is_word v (Some (digits w)) = false
is_word v (Some (text w)) = false
is_word v (Some (sign u)) = false

-- the next token is this word
abbrev pub at_word : List ℕ → State → Bool
at_word v s = is_word v (first s)

unfoldable pub skip_sign : Sign → State → Read (Unit {0})
skip_sign g s = if at_sign g s then Ok (tt, bump s) else Err (fault why.Syntax s)

unfoldable pub skip_word : List ℕ → State → Read (Unit {0})
skip_word v s = if at_word v s then Ok (tt, bump s) else Err (fault why.Syntax s)

abbrev pub id_by : Option Token → State → Read (List ℕ)
id_by None s = Err (fault why.Syntax s)
id_by (Some (word w)) s = if is_id w then Ok (w, bump s) else Err (fault why.Syntax s)
id_by (Some (number w)) s = Err (fault why.Syntax s)
id_by (Some (bits w)) s = Err (fault why.Syntax s)
id_by (Some (digits w)) s = Err (fault why.Syntax s)
id_by (Some (text w)) s = Err (fault why.Syntax s)
id_by (Some (sign u)) s = Err (fault why.Syntax s)

unfoldable pub id_at : State → Read (List ℕ)
id_at s = id_by (first s) s

abbrev pub number_text_by : Option Token → State → Read (List ℕ)
number_text_by None s = Err (fault why.Syntax s)
number_text_by (Some (word w)) s = Err (fault why.Syntax s)
number_text_by (Some (number w)) s = Ok (w, bump s)
number_text_by (Some (bits w)) s = Err (fault why.Syntax s)
number_text_by (Some (digits w)) s = Err (fault why.Syntax s)
number_text_by (Some (text w)) s = Err (fault why.Syntax s)
number_text_by (Some (sign u)) s = Err (fault why.Syntax s)

unfoldable pub number_text_at : State → Read (List ℕ)
number_text_at s = number_text_by (first s) s

-- one part more; the fault is given where the type has all
unfoldable pub part_at : TextFault → State → Read (Unit {0})
part_at e s = if s.parts == 0 then Err e else Ok (tt, record { left = s.left; parts = s.parts - 1; stop = s.stop })

-- the fault of a type or an item that begins at the next token and is one too many
abbrev pub full : State → TextFault
full s = fault (why.Schema TooManyParts) s

-- How many tokens the parts have that stand in the tree as tokens.
use Rattle.std.specs.Prelude.{ℕ, zero, suc, ◌+◌, ◌-◌, List, [], ◌∷◌, take, drop, ◌==◌, Bool, true, false, not, ◌&&◌, ◌||◌, Option, Some, Result, Ok, Err, codes, if◌then◌else◌}
use Rattle.std.specs.Str.{bytes_eq}
use Rattle.oer_module_lexer.specs.Token.{Token, word, field, number, real, bits, digits, text, sign, Spot}
use Rattle.oer_module_lexer.specs.declared.token.Sign.{Sign}
use Rattle.oer_module_lexer.specs.declared.token.Sign.TheVariants.{OpenBrace, CloseBrace, OpenParenthesis, CloseParenthesis, OpenBracket, CloseBracket, OpenGroup, CloseGroup, Comma, Point, Colon, Hyphen}
use Rattle.oer_module_lexer.specs.declared.token.Sign.TheVariants.{Assign, Semicolon, Exclamation}
use Rattle.oer_module_syntax.specs.State.{State, Read, first, first_of, bump, is_sign, at_sign, same_sign, past, end_fault, fault, ◌>>=◌}
use Rattle.oer_module_syntax.specs.Words.{is_identifier, is_reserved}
use Rattle.oer_module_syntax.specs.declared.fault.Fault.{Fault}
use Rattle.oer_module_syntax.specs.declared.fault.Sought.TheVariants as sought
use Rattle.oer_module_syntax.specs.declared.fault.Why.TheVariants as why
use Rattle.oer_module_syntax.specs.declared.range.Extent.{Extent}
use Rattle.oer_module_syntax.specs.declared.range.Extent.TheVariants.{Group, Constraints, Span, Prefix}
use Rattle.oer_module_syntax.specs.declared.range.Pair.{Pair}
use Rattle.oer_module_syntax.specs.declared.range.Pair.TheVariants.{Step, Choice}

abbrev pub starts_sign : Sign → List Spot → Bool
starts_sign g ts = is_sign g (first_of ts)

-- ---- brackets. What is open is told by the signs that close it, the innermost first.

-- the sign at a place doesn't close what is open: this one does
abbrev pub unclosed : ℕ → Sign → Fault
unclosed at g = record { at = at; why = why.Expected (sought.Sign g) }

-- what is open behind a sign that closes
abbrev pub close : ℕ → Sign → List Sign → Result (List Sign) Fault
close at g [] = Err (unclosed at g)
close at g (c ∷ cs) = if same_sign c g then Ok cs else Err (unclosed at c)

-- what is open behind a token; `[[` and `]]` count two
abbrev pub nest : ℕ → Token → List Sign → Result (List Sign) Fault
nest at (sign OpenBrace) cs = Ok (CloseBrace ∷ cs)
nest at (sign OpenParenthesis) cs = Ok (CloseParenthesis ∷ cs)
nest at (sign OpenBracket) cs = Ok (CloseBracket ∷ cs)
nest at (sign OpenGroup) cs = Ok (CloseBracket ∷ CloseBracket ∷ cs)
nest at (sign CloseBrace) cs = close at CloseBrace cs
nest at (sign CloseParenthesis) cs = close at CloseParenthesis cs
nest at (sign CloseBracket) cs = close at CloseBracket cs
nest at (sign CloseGroup) cs = close at CloseBracket cs >>= close at CloseBracket
nest at _ cs = Ok cs

abbrev pub nest_next : List Spot → List Sign → Result (List Sign) Fault
nest_next [] cs = Ok cs
nest_next (t ∷ ts) cs = nest t.at t.token cs

-- a comma, or a sign that closes
abbrev pub ends_span : List Spot → Bool
ends_span ts =
    starts_sign Comma ts || starts_sign CloseBrace ts || starts_sign CloseParenthesis ts || starts_sign CloseBracket ts
    || starts_sign CloseGroup ts

-- what stands behind a type in a value: a colon, or what no type holds
abbrev pub ends_prefix : List Spot → Bool
ends_prefix ts = ends_span ts || starts_sign Colon ts || starts_sign Assign ts || starts_sign Semicolon ts

-- where all is closed: more belongs to it
abbrev pub again : Extent → List Spot → Bool
again Group ts = false
again Constraints ts = starts_sign OpenParenthesis ts
again Span ts = not (ends_span ts)
again Prefix ts = not (ends_prefix ts)

-- not all is closed yet, or more belongs to it
abbrev pub goes_on : Extent → Bool → List Spot → Bool
goes_on x c [] = false
goes_on x c (t ∷ ts) = if c then again x (t ∷ ts) else true

abbrev pub none_open : List Sign → Bool
none_open [] = true
none_open (c ∷ cs) = false

abbrev pub finished : State → List Sign → Result ℕ Fault
finished s [] = Ok 0
finished s (c ∷ cs) = Err (end_fault (why.Expected (sought.Sign c)) s)

-- How many tokens it takes until all is closed and no more belongs to it, or the first sign that closes what isn't open.
-- Where the tokens end before that, the sign that closes the innermost was expected there.
unfoldable pub groups_len : Extent → State → List Spot → List Sign → Result ℕ Fault
groups_len x s [] cs = finished s cs
groups_len x s (t ∷ ts) cs =
    if goes_on x (none_open cs) (t ∷ ts) then (nest_next (t ∷ ts) cs >>= λ more. groups_len x s ts more >>= λ n. Ok (1 + n))
    else finished s cs

abbrev pub is_step : Token → Bool
is_step (word w) = true
is_step (field w) = true
is_step _ = false

abbrev pub is_any_word : Token → Bool
is_any_word (word w) = true
is_any_word _ = false

-- a point and a word or field, or a word and a colon
abbrev pub is_pair : Pair → Token → Token → Bool
is_pair Step t u = is_sign Point (Some t) && is_step u
is_pair Choice t u = is_sign Colon (Some u) && is_any_word t

abbrev pub starts_with_pair : Pair → List Spot → Bool
starts_with_pair p [] = false
starts_with_pair p (t ∷ []) = false
starts_with_pair p (t ∷ u ∷ us) = is_pair p t.token u.token

-- how many tokens the pairs at the front have
unfoldable pub pairs_len : Pair → List Spot → ℕ
pairs_len p [] = 0
pairs_len p (t ∷ []) = 0
pairs_len p (t ∷ u ∷ us) = if starts_with_pair p (t ∷ u ∷ us) then 2 + pairs_len p us else 0

-- so many tokens, and what is left
abbrev pub front_of : ℕ → State → Read (List Spot)
front_of n s = Ok (take n s.left, past n s)

-- how many tokens stand between one that opens and the one that closes, with both
abbrev pub group_len : State → Result ℕ Fault
group_len s = nest_next s.left [] >>= λ cs. groups_len Group s (drop 1 s.left) cs >>= λ n. Ok (1 + n)

-- what stands between a sign that opens and the one that closes, with both, if that sign is next
unfoldable pub group_at : Sign → State → Read (List Spot)
group_at g s = if at_sign g s then (group_len s >>= λ n. front_of n s) else Ok ([], s)

-- what stands in parentheses, one after another
unfoldable pub constraints_at : State → Read (List Spot)
constraints_at s = groups_len Constraints s s.left [] >>= λ n. front_of n s

-- what stands before a comma or a sign that closes, none of which belongs to it
unfoldable pub span_at : State → Read (List Spot)
span_at s = groups_len Span s s.left [] >>= λ n. front_of n s

abbrev pub is_reserved_value : List ℕ → Bool
is_reserved_value w =
    bytes_eq w (codes "TRUE") || bytes_eq w (codes "FALSE") || bytes_eq w (codes "NULL") || bytes_eq w (codes "PLUS-INFINITY")
    || bytes_eq w (codes "MINUS-INFINITY") || bytes_eq w (codes "NOT-A-NUMBER")

-- a word that stands for a value (17.7)
abbrev pub is_value_word : List ℕ → Bool
is_value_word w = not (is_reserved w) || is_reserved_value w

abbrev pub is_amount : Option Token → Bool
is_amount (Some (number w)) = true
is_amount (Some (real w)) = true
is_amount _ = false

abbrev pub starts_with_amount : List Spot → Bool
starts_with_amount ts = is_amount (first_of ts)

abbrev pub atom_by : Token → List Spot → ℕ
atom_by (word w) ts = if is_value_word w then 1 + pairs_len Step ts else 0
atom_by (field w) ts = 0
atom_by (number w) ts = 1
atom_by (real w) ts = 1
atom_by (bits w) ts = 1
atom_by (digits w) ts = 1
atom_by (text w) ts = 1
atom_by (sign g) ts = if same_sign Hyphen g && starts_with_amount ts then 2 else 0

-- how many tokens the value at the front has that stands in no braces, and 0 where there is none
abbrev pub atom_len : List Spot → ℕ
atom_len [] = 0
atom_len (t ∷ ts) = atom_by t.token ts

abbrev pub is_some_word : Option Token → Bool
is_some_word (Some (word w)) = true
is_some_word _ = false

-- behind a name: actual parameters (X.683, 9.1)
abbrev pub parameters_len : Bool → State → Result ℕ Fault
parameters_len takes s = if not takes || not (at_sign OpenBrace s) then Ok 0 else group_len s

-- a value in no braces: how many tokens it has, and what is left
unfoldable pub atom_at : State → Read ℕ
atom_at s =
    if atom_len s.left == 0 then Err (fault (why.Expected sought.Value) s)
    else (
    parameters_len (is_some_word (first s)) (past (atom_len s.left) s) >>= λ n. Ok (atom_len s.left + n, past n (past (atom_len s.left) s))
    )

-- behind the names of alternatives and a type
abbrev pub base_at : State → Read ℕ
base_at s = if at_sign OpenBrace s then (group_len s >>= λ n. Ok (n, past n s)) else atom_at s

-- a word that begins no value by itself: of a type, or the name of a module
abbrev pub is_type_word : Option Token → Bool
is_type_word (Some (word w)) = not (is_identifier w) && not (is_reserved_value w)
is_type_word _ = false

abbrev pub prefix_by : ℕ → State → ℕ × State
prefix_by n s = if at_sign Colon (past n s) then (n + 1, past (n + 1) s) else (0, s)

-- a type and a colon, if they are there (X.680, 53.1; X.681, 14.6): how many tokens, and what is left
unfoldable pub prefix_at : State → Read ℕ
prefix_at s = if is_type_word (first s) then (groups_len Prefix s s.left [] >>= λ n. Ok (prefix_by n s)) else Ok (0, s)

-- A value: what stands in braces, or a number, a quoted text or a name, perhaps with actual parameters. The names of
-- alternatives stand before it, or a type and a colon (17.7; X.681, 14.6).
unfoldable pub value_at : State → Read (List Spot)
value_at s = do
  prefix ← prefix_at (past (pairs_len Choice s.left) s)
  base ← base_at prefix.1
  Ok (take (pairs_len Choice s.left + prefix.0 + base.0) s.left, base.1)

-- an exception (53.1), if there is one: the tokens behind `!`
abbrev pub exception_at : State → Read (List Spot)
exception_at s = if at_sign Exclamation s then value_at (bump s) else Ok ([], s)

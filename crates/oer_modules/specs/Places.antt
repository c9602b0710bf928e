-- Where a byte of a text stands: its line, its column, and the token that begins there.
use Rattle.std.specs.Prelude.{◌<◌, ◌≤◌, ℕ, suc, List, [], ◌∷◌, take, ◌==◌, nat_lt, ◌&&◌, Bool, Option, Some, None, option_map, slice_get, slice_index_or, length, if◌then◌else◌}
use Rattle.std.specs.List.Sorted.{IsNonDecreasingBy}
use Rattle.oer_module_lexer.specs.Lexing.{Lexed, lex}
use Rattle.oer_module_lexer.specs.Token.{Spot, Token, spots_of, token_of}
use Rattle.oer_module_lexer.specs.declared.lexing.Tokens.{Tokens}
use Rattle.oer_module_lexer.specs.declared.token.Spot.{Spot as RawSpot}
use Rattle.oer_modules.specs.declared.place.Point.{Point as RawPoint}
use Rattle.oer_modules.specs.declared.place.Position.{Position}

-- a byte of UTF-8 that isn't the first of its character
abbrev pub goes_on : ℕ → Bool
goes_on c = nat_lt 127 c && nat_lt c 192

-- the position behind a byte: a line feed ends a line
abbrev pub beyond : ℕ → Position → Position
beyond c p =
    if c == 10 then record { line = suc p.line; column = 1 }
    else if goes_on c then p
    else record { line = p.line; column = suc p.column }

-- the position behind all of these
unfoldable pub behind : List ℕ → Position → Position
behind [] p = p
behind (c ∷ cs) p = behind cs (beyond c p)

abbrev pub first_position : Position
first_position = record { line = 1; column = 1 }

-- the line and the column of a byte, both from 1
abbrev pub position_at : ℕ → List ℕ → Position
position_at at bs = behind (take at bs) first_position

-- the token that begins at a byte
unfoldable pub token_at : ℕ → List Spot → Option Token
token_at at [] = None
token_at at (s ∷ ss) = if s.at == at then Some s.token else token_at at ss

-- tokens in the order of their bytes
abbrev pub AreInOrder : List RawSpot → Type 0
AreInOrder ss = IsNonDecreasingBy (λ s. s.at) ss

-- The first n begin before the byte, the others don't.
pub record ArePartedAt (at : ℕ) (ss : List RawSpot) (n : ℕ) : Type 0 where
  pub before : (k : ℕ) (d : RawSpot) → k < n → (slice_index_or ss k d).at < at
  pub rest : (k : ℕ) (d : RawSpot) → n ≤ k → k < length ss → at ≤ (slice_index_or ss k d).at

-- a place in one of the texts, which count from 1
pub record Point : Type 0 where
  pub text : ℕ
  pub at : ℕ
  pub line : ℕ
  pub column : ℕ
  pub token : Option Token

abbrev pub point_of : RawPoint → Point
point_of p = record { text = p.text; at = p.at; line = p.line; column = p.column; token = option_map token_of p.token }

-- the same of the tokens of a text
abbrev pub lexed_of : Tokens → Lexed
lexed_of t = record { spots = spots_of t.spots.items; end = t.end; complete = t.complete }

abbrev pub point_in : ℕ → ℕ → List ℕ → Point
point_in n at t = record {
  text = suc n;
  at = at;
  line = (position_at at t).line;
  column = (position_at at t).column;
  token = token_at at (lex t).spots;
}

-- a place in the text of this number, counted from 0, if there is such a text
abbrev pub point_at : List (List ℕ) → ℕ → ℕ → Option Point
point_at ts n at = option_map (point_in n at) (slice_get ts n)

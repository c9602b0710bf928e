-- What holds of lists of tokens in which nothing but parentheses opens.
use Rattle.std.proofs.Common.{ℕ, List, [], ◌∷◌, ◌++◌, Bool, Option, ℤ}
use Rattle.std.specs.Prelude.{codes}
use Rattle.std.specs.Int.{Width}
use Rattle.oer_lexer.specs.Token.{Token, word, number, sign}
use Rattle.oer_lexer.specs.declared.token.Sign.TheVariants.{OpenParenthesis, CloseParenthesis, Comma, Range, Ellipsis}
use Rattle.oer_model.specs.AsnType.{NamedNumber}
use Rattle.oer_model.specs.declared.size.Size.{Size}
use Rattle.oer_notation.specs.Grammar.{IsInteger, an_integer, IsNatural, a_natural, IsBound, no_bound, a_bound, AreBounds, no_bounds, one_number, range, IsSizeEnd, no_end, an_end, IsSize, one_size, sizes, IsBracketedSize, any_size, bracketed, IsItemNumber, own_number, number_by_place, AreItems, no_items, item, items_marker, AreArcs, no_arcs, an_arc}

pub record Grows (P : List Token → Type 0) : Type 0 where
  pub nothing : P []
  pub behind : (ts us : List Token) → P ts → P us → P (ts ++ us)
  pub a_word : (w : List ℕ) → P (word w ∷ [])
  pub a_number : (w : List ℕ) → P (number w ∷ [])
  pub comma : P (sign Comma ∷ [])
  pub dots : P (sign Range ∷ [])
  pub ellipsis : P (sign Ellipsis ∷ [])
  pub parentheses : (ts : List Token) → P ts → P (sign OpenParenthesis ∷ (ts ++ sign CloseParenthesis ∷ []))

-- in parentheses, or nothing
pub data Bracketed (P : List Token → Type 0) : List Token → Type 0 where
  unbracketed : Bracketed P []
  in_parentheses : {ts : List Token} → P ts → Bracketed P (sign OpenParenthesis ∷ (ts ++ sign CloseParenthesis ∷ []))

-- the word SIZE, and what is in parentheses behind it
pub data Bare (P : List Token → Type 0) : List Token → Type 0 where
  bare_size : {ts : List Token} → P ts → Bare P (word (codes "SIZE") ∷ sign OpenParenthesis ∷ (ts ++ sign CloseParenthesis ∷ []))

module _ (P : List Token → Type 0) (g : Grows P) where
  pub more : (t : Token) (ts : List Token) → P (t ∷ []) → P ts → P (t ∷ ts)
  more t ts p q = g.behind (t ∷ []) ts p q

  integer_grows : {width : Width} {z : ℤ} {t : Token} → IsInteger width z t → P (t ∷ [])
  integer_grows (an_integer {w} n e f) = g.a_number w

  pub natural_grows : {limit n : ℕ} {t : Token} → IsNatural limit n t → P (t ∷ [])
  natural_grows (a_natural {w} n e f) = g.a_number w

  bound_grows : {unbounded : List ℕ} {o : Option ℤ} {t : Token} → IsBound unbounded o t → P (t ∷ [])
  bound_grows {unbounded} no_bound = g.a_word unbounded
  bound_grows (a_bound n) = integer_grows n

  size_end_grows : {o : Option ℕ} {t : Token} → IsSizeEnd o t → P (t ∷ [])
  size_end_grows no_end = g.a_word (codes "MAX")
  size_end_grows (an_end n) = natural_grows n

  between : (s t : Token) → P (s ∷ []) → P (t ∷ []) → P (s ∷ sign Range ∷ t ∷ [])
  between s t p q = more s (sign Range ∷ t ∷ []) p (more (sign Range) (t ∷ []) g.dots q)

  bare_by : (ts : List Token) → P ts → Bare P (word (codes "SIZE") ∷ sign OpenParenthesis ∷ (ts ++ sign CloseParenthesis ∷ []))
  bare_by ts p = bare_size p

  pub size_bare : {size : Size} {ts : List Token} → IsSize size ts → Bare P ts
  size_bare (one_size {t} n) = bare_by (t ∷ []) (natural_grows n)
  size_bare (sizes {s} {t} n e) = bare_by (s ∷ sign Range ∷ t ∷ []) (between s t (natural_grows n) (size_end_grows e))

  bare_grows : {ts : List Token} → Bare P ts → P ts
  bare_grows (bare_size {ts} p) = more (word (codes "SIZE")) (sign OpenParenthesis ∷ (ts ++ sign CloseParenthesis ∷ [])) (g.a_word (codes "SIZE")) (g.parentheses ts p)

  pub size_grows : {size : Size} {ts : List Token} → IsSize size ts → P ts
  size_grows s = bare_grows (size_bare s)

  bracketed_by : (ts : List Token) → P ts → Bracketed P (sign OpenParenthesis ∷ (ts ++ sign CloseParenthesis ∷ []))
  bracketed_by ts p = in_parentheses p

  pub bounds_bracketed : {low high : Option ℤ} {ts : List Token} → AreBounds low high ts → Bracketed P ts
  bounds_bracketed no_bounds = unbracketed
  bounds_bracketed (one_number {t} n) = bracketed_by (t ∷ []) (integer_grows n)
  bounds_bracketed (range {s} {t} b c) = bracketed_by (s ∷ sign Range ∷ t ∷ []) (between s t (bound_grows b) (bound_grows c))

  pub size_bracketed : {size : Size} {ts : List Token} → IsBracketedSize size ts → Bracketed P ts
  size_bracketed any_size = unbracketed
  size_bracketed (bracketed {ts} s) = bracketed_by ts (size_grows s)

  pub bracketed_grows : {ts : List Token} → Bracketed P ts → P ts
  bracketed_grows unbracketed = g.nothing
  bracketed_grows (in_parentheses {ts} p) = g.parentheses ts p

  item_number_grows : {numbered : Bool} {place : ℕ} {z : ℤ} {ts : List Token} → IsItemNumber numbered place z ts → P ts
  item_number_grows (own_number {t} n) = g.parentheses (t ∷ []) (integer_grows n)
  item_number_grows number_by_place = g.nothing

  items_grow : {numbered : Bool} {place : ℕ} {items : List NamedNumber} {marker : Bool} {ts : List Token} → AreItems numbered place items marker ts → P ts
  items_grow no_items = g.nothing
  items_grow (item {w} {ts} {us} i n m) =
      more (sign Comma) (word w ∷ (ts ++ us)) g.comma (more (word w) (ts ++ us) (g.a_word w) (g.behind ts us (item_number_grows n) (items_grow m)))
  items_grow (items_marker {us} m) = more (sign Comma) (sign Ellipsis ∷ us) g.comma (more (sign Ellipsis) us g.ellipsis (items_grow m))

  -- without the comma before the first
  pub first_items_grow : {numbered : Bool} {place : ℕ} {items : List NamedNumber} {marker : Bool} {w : List ℕ} {ts : List Token}
      → AreItems numbered place items marker (sign Comma ∷ word w ∷ ts) → P (word w ∷ ts)
  first_items_grow (item {w} {ts} {us} i n m) = more (word w) (ts ++ us) (g.a_word w) (g.behind ts us (item_number_grows n) (items_grow m))

  pub arcs_grow : {arcs : List ℕ} {ts : List Token} → AreArcs arcs ts → P ts
  arcs_grow no_arcs = g.nothing
  arcs_grow (an_arc {t} {ts} n m) = more t ts (natural_grows n) (arcs_grow m)

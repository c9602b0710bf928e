-- Reading constraints from tokens (X.680, 49 to 51; X.682, 8 to 11): what is read and what is left, or the first fault.
use Rattle.std.specs.Prelude.{ℕ, zero, suc, List, [], ◌∷◌, length, Bool, not, ◌&&◌, ◌||◌, Option, Some, None, Ok, Err, if◌then◌else◌}
use Rattle.oer_module_lexer.specs.Token.{Spot}
use Rattle.oer_module_lexer.specs.declared.token.Sign.TheVariants.{OpenBrace, OpenParenthesis, CloseParenthesis, Comma, Ellipsis, Less}
use Rattle.oer_module_lexer.specs.declared.token.Sign.TheVariants.{Range, Bar, Caret}
use Rattle.oer_module_syntax.specs.Modules.{all_of, many}
use Rattle.oer_module_syntax.specs.Ranges.{exception_at, span_at, value_at as value_tokens_at}
use Rattle.oer_module_syntax.specs.State.{State, Read, ◌>>=◌, fault, place, bump, at_sign, at_keyword, skip_sign, skip_keyword}
use Rattle.oer_module_syntax.specs.Types.{type_at}
use Rattle.oer_module_syntax.specs.declared.fault.Why.TheVariants as why
use Rattle.oer_module_syntax.specs.declared.word.Keyword.{Keyword}
use Rattle.oer_module_syntax.specs.declared.word.Keyword.TheVariants as kw
use Rattle.oer_module_terms.specs.Looks.{past_sign, at_type, taken_at}
use Rattle.oer_module_terms.specs.Trees.{Value, Constraint, subtype, general, Extension, closed, opened, extended, Elements, Simple, simple, union}
use Rattle.oer_module_terms.specs.Trees.{intersection, except, all_except, value, range, size, alphabet, type, narrowing, Sets, sets_from}
use Rattle.oer_module_terms.specs.Values.{value_at}
use Rattle.oer_module_terms.specs.declared.constraint.Mark.{Mark}
use Rattle.oer_module_terms.specs.declared.constraint.Mark.TheVariants as mark
use Rattle.oer_module_terms.specs.declared.tree.General.{General}
use Rattle.oer_module_terms.specs.declared.tree.General.TheVariants as kind
use Rattle.oer_module_terms.specs.declared.tree.Narrowing.{Narrowing}
use Rattle.oer_module_terms.specs.declared.tree.Narrowing.TheVariants as narrow

-- ---- elements that hold no other set (51)

-- a value, or the word that stands for none
unfoldable pub limit_at : ℕ → Keyword → State → Read (Option Value)
limit_at levels k s = if at_keyword k s then Ok (None, bump s) else (value_at levels s >>= λ v. Ok (Some v.0, v.1))

-- a range that began at a place, behind its lower end (51.4)
unfoldable pub range_at : ℕ → ℕ → Option Value → State → Read Simple
range_at levels at low s = do
  dots ← skip_sign Range (past_sign Less s)
  high ← limit_at levels kw.Max (past_sign Less dots.1)
  Ok (range at (record { limit = low; excluded = at_sign Less s }) (record { limit = high.0; excluded = at_sign Less dots.1 }), high.1)

-- a value (51.2), or a range
abbrev pub limited_by : ℕ → ℕ → Option Value → State → Read Simple
limited_by levels at None s = range_at levels at None s
limited_by levels at (Some v) s = if at_sign Less s || at_sign Range s then range_at levels at (Some v) s else Ok (value v, s)

unfoldable pub limited_at : ℕ → State → Read Simple
limited_at levels s = limit_at levels kw.Min s >>= λ low. limited_by levels (place s) low.0 low.1

-- a type (51.3, 51.6)
unfoldable pub contained_at : ℕ → State → Read Simple
contained_at levels s = type_at levels s >>= λ t. Ok (type t.0, t.1)

-- behind WITH: one constraint, or braces (51.8)
unfoldable pub inner_at : State → Read (List Spot)
inner_at s =
    if at_keyword kw.Components s then taken_at OpenBrace (bump s)
    else (skip_keyword kw.Component s >>= λ r. taken_at OpenParenthesis r.1)

abbrev pub narrowed : ℕ → Narrowing → Read (List Spot) → Read Simple
narrowed at k r = r >>= λ ts. Ok (narrowing at k ts.0, ts.1)

-- what holds no other set
unfoldable pub simple_at : ℕ → State → Read Simple
simple_at levels s =
    if at_keyword kw.With s then narrowed (place s) narrow.Inner (inner_at (bump s))
    else if at_keyword kw.Pattern s then narrowed (place s) narrow.Pattern (value_tokens_at (bump s))
    else if at_keyword kw.Settings s then narrowed (place s) narrow.Settings (value_tokens_at (bump s))
    else if at_keyword kw.Includes s then contained_at levels (bump s)
    else if at_type s then contained_at levels s
    else limited_at levels s

-- ---- general constraints, which change no octet

-- which one is next, if one is
abbrev pub general_of : State → Option General
general_of s =
    if at_keyword kw.Constrained s then Some kind.UserDefined
    else if at_keyword kw.Containing s || at_keyword kw.Encoded s then Some kind.Contents
    else if at_sign OpenBrace s && at_type (bump s) then Some kind.Table
    else None

-- its tokens, up to where the parentheses close
unfoldable pub general_at : ℕ → General → State → Read Constraint
general_at at k s = span_at s >>= λ r. Ok (general at k r.0, r.1)

-- ---- sets

abbrev pub at_mark : Mark → State → Bool
at_mark mark.Union s = at_sign Bar s || at_keyword kw.Union s
at_mark mark.Intersection s = at_sign Caret s || at_keyword kw.Intersection s

-- several, joined by a mark
abbrev pub joined_by : Mark → Sets → Elements
joined_by mark.Union es = union es
joined_by mark.Intersection es = intersection es

-- elements that are read, and those behind the marks that follow
abbrev pub several : Mark → (State → Read Elements) → Elements → State → Read Elements
several m one e s = many (λ r. not (at_mark m r)) (λ r. one (bump r)) (suc (length s.left)) (e ∷ []) s >>= λ es. Ok (joined_by m (sets_from es.0), es.1)

-- Where no mark follows, elements stand alone.
abbrev pub joined : Mark → (State → Read Elements) → State → Read Elements
joined m one s = one s >>= λ e. if at_mark m e.1 then several m one e.0 e.1 else Ok e

-- sets and constraints, where a set within these is read so
module _ (levels : ℕ) (set : State → Read Elements) where
  -- behind the comma after a root (50.1)
  unfoldable pub marked_at : State → Read Extension
  marked_at s = if at_sign Comma s then (set (bump s) >>= λ x. Ok (extended x.0, x.1)) else Ok (opened, s)

  unfoldable pub extension_at : State → Read Extension
  extension_at s = if at_sign Comma s then (skip_sign Ellipsis (bump s) >>= λ r. marked_at r.1) else Ok (closed, s)

  -- a root, its extension (50.1) and an exception (53)
  unfoldable pub subtype_at : ℕ → State → Read Constraint
  subtype_at at s = do
    root ← set s
    extension ← extension_at root.1
    exception ← exception_at extension.1
    Ok (subtype at root.0 extension.0 exception.0, exception.1)

  unfoldable pub specified_by : ℕ → Option General → State → Read Constraint
  specified_by at (Some k) s = general_at at k s
  specified_by at None s = subtype_at at s

  -- a constraint in its parentheses (49.6)
  unfoldable pub constraint_with : State → Read Constraint
  constraint_with s = do
    begun ← skip_sign OpenParenthesis s
    found ← specified_by (place s) (general_of begun.1) begun.1
    ended ← skip_sign CloseParenthesis found.1
    Ok (found.0, ended.1)

  -- behind the opening parenthesis (50.5)
  unfoldable pub nested_at : State → Read Elements
  nested_at s = set s >>= λ e. skip_sign CloseParenthesis e.1 >>= λ r. Ok (e.0, r.1)

  -- elements (50.5, 51.1)
  unfoldable pub element_at : State → Read Elements
  element_at s =
      if at_sign OpenParenthesis s then nested_at (bump s)
      else if at_keyword kw.Size s then (constraint_with (bump s) >>= λ c. Ok (size (place s) c.0, c.1))
      else if at_keyword kw.From s then (constraint_with (bump s) >>= λ c. Ok (alphabet (place s) c.0, c.1))
      else (simple_at levels s >>= λ e. Ok (simple e.0, e.1))

  -- elements, and perhaps others that are left out (50.1)
  unfoldable pub excluding_at : State → Read Elements
  excluding_at s =
      element_at s >>= λ e. if at_keyword kw.Except e.1 then (element_at (bump e.1) >>= λ x. Ok (except e.0 x.0, x.1)) else Ok e

  -- joined by `^` (50.1)
  unfoldable pub intersection_at : State → Read Elements
  intersection_at s = joined mark.Intersection excluding_at s

  -- what stands between the marks
  unfoldable pub between_at : Mark → State → Read Elements
  between_at mark.Union s = intersection_at s
  between_at mark.Intersection s = excluding_at s

  unfoldable pub joined_at : Mark → State → Read Elements
  joined_at m s = joined m (between_at m) s

  -- behind ALL (50.1)
  unfoldable pub everything_but_at : State → Read Elements
  everything_but_at s = skip_keyword kw.Except s >>= λ r. element_at r.1 >>= λ e. Ok (all_except e.0, e.1)

  -- all but some, or a union (50.1)
  unfoldable pub any_set_at : State → Read Elements
  any_set_at s =
      if at_keyword kw.All s then everything_but_at (bump s)
      else joined_at mark.Union s

-- A set of values. The number is how many levels of sets may nest, and of values and types in them.
unfoldable pub set_at : ℕ → State → Read Elements
set_at zero s = Err (fault why.TooDeep s)
set_at (suc levels) s = any_set_at levels (set_at levels) s

-- a constraint
abbrev pub constraint_at : ℕ → State → Read Constraint
constraint_at levels s = constraint_with levels (set_at levels) s

-- constraints, one after another, as many as begin
abbrev pub constraints_at : ℕ → State → Read (List Constraint)
constraints_at levels s = all_of (λ r. not (at_sign OpenParenthesis r)) (constraint_at levels) s

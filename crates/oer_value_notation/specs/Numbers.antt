-- Numbers of the notation, sizes and bounds: what is read and what is left, or the first fault.
use Rattle.std.specs.Prelude.{ℕ, ℤ, List, Bool, true, false, not, ◌&&◌, Option, Some, None, Ok, Err, codes, if◌then◌else◌}
use Rattle.oer_lexer.specs.declared.token.Sign.TheVariants.{OpenParenthesis, CloseParenthesis, Range}
use Rattle.oer_model.specs.declared.size.Size.{Size}
use Rattle.oer_literals.specs.Numbers.{integer_of, size_of}
use Rattle.oer_value_notation.specs.State.{State, Read, ◌>>=◌, fault, bump, at_sign, at_word, skip_sign, skip_word, number_text_at}
use Rattle.oer_value_notation.specs.declared.fault.TextFault.{TextFault}
use Rattle.oer_value_notation.specs.declared.fault.TextWhy.TheVariants as why

abbrev pub given : {A : Type 0} → Option A → TextFault → State → Read A
given (Some x) e s = Ok (x, s)
given None e s = Err e

-- a number in its range
unfoldable pub number_at : {A : Type 0} → (List ℕ → Option A) → State → Read A
number_at parse s = number_text_at s >>= λ w. given (parse w.0) (fault why.Number s) w.1

-- a number, or the word that means no bound
unfoldable pub end_at : {A : Type 0} → (List ℕ → Option A) → List ℕ → State → Read (Option A)
end_at parse v s = if at_word v s then Ok (None, bump s) else (number_at parse s >>= λ n. Ok (Some n.0, n.1))

abbrev pub is_given : {A : Type 0} → Option A → Bool
is_given None = false
is_given (Some x) = true

-- the upper bound: behind two points, or the lower one
unfoldable pub high_at : Option ℤ → State → Read (Option ℤ)
high_at low s = if is_given low && not (at_sign Range s) then Ok (low, s)
    else (skip_sign Range s >>= λ r. end_at integer_of (codes "MAX") r.1)

-- bounds in brackets, or none
unfoldable pub bounds_at : State → Read (Option ℤ × Option ℤ)
bounds_at s = if not (at_sign OpenParenthesis s) then Ok ((None, None), s) else (do
  low ← end_at integer_of (codes "MIN") (bump s)
  high ← high_at low.0 low.1
  rest ← skip_sign CloseParenthesis high.1
  Ok ((low.0, high.0), rest.1))

-- the upper end of a size
unfoldable pub size_high_at : ℕ → State → Read (Option ℕ)
size_high_at low s = if at_sign Range s then end_at size_of (codes "MAX") (bump s) else Ok (Some low, s)

-- the word SIZE and a size in brackets
unfoldable pub size_at : State → Read Size
size_at s = do
  start ← skip_word (codes "SIZE") s
  inside ← skip_sign OpenParenthesis start.1
  low ← number_at size_of inside.1
  high ← size_high_at low.0 low.1
  rest ← skip_sign CloseParenthesis high.1
  Ok (record { low = low.0; high = high.0 }, rest.1)

abbrev pub any_size : Size
any_size = record { low = 0; high = None }

-- a size in brackets, or none
unfoldable pub bracketed_size_at : State → Read Size
bracketed_size_at s = if not (at_sign OpenParenthesis s) then Ok (any_size, s) else (do
  size ← size_at (bump s)
  rest ← skip_sign CloseParenthesis size.1
  Ok (size.0, rest.1))

-- the size of a SEQUENCE OF, in brackets or not
unfoldable pub list_size_at : State → Read Size
list_size_at s = if at_word (codes "SIZE") s then size_at s else bracketed_size_at s

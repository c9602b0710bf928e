-- Values and ranges of values as ranges of numbers (X.680, 51.2 and 51.4).
use Rattle.std.specs.Prelude.{ℕ, ℤ, pos, ◌+ℤ◌, ◌-ℤ◌, List, Bool, Option, Some, None, Ok, if◌then◌else◌, Result}
use Rattle.oer_module_bounds.specs.Sets.{Span, Set, range, range_from, is_greatest, is_least}
use Rattle.oer_module_names.specs.declared.error.Place.{Place}
use Rattle.oer_module_syntax.specs.Tree.{Module}
use Rattle.oer_module_terms.specs.Trees.{Amount, Atom, amount, Value, atom, numbered, choice, braces, Bound}
use Rattle.oer_module_values.specs.Errors.{place_in, Error as ToldError}
use Rattle.oer_module_values.specs.Numbers.{integer_at, number_at}
use Rattle.oer_module_values.specs.Types.{TypeIn}
use Rattle.oer_module_limits.specs.Errors.{Read, refused, ◌>>=◌, told_by, not_a_number, open_end, too_large}

abbrev pub value_place : Value → ℕ
value_place (atom at _) = at
value_place (numbered at _ _) = at
value_place (choice at _ _) = at
value_place (braces at _) = at

-- the number and the one past it, or before it
abbrev pub raised : Place → Bool → ℤ → Read ℤ
raised p excluded n = if excluded then (if is_greatest (Some n) then refused p too_large else Ok (n +ℤ pos 1)) else Ok n

abbrev pub lowered : Place → Bool → ℤ → Read ℤ
lowered p excluded n = if excluded then (if is_least (Some n) then refused p too_large else Ok (n -ℤ pos 1)) else Ok n

abbrev pub unbounded : Place → Bool → Read (Option ℤ)
unbounded p excluded = if excluded then refused p open_end else Ok None

abbrev pub spanned_by : Place → Option Span → Read Set
spanned_by p None = refused p too_large
spanned_by p (Some r) = Ok (range r)

abbrev pub spanned : Place → Option ℤ → Option ℤ → Read Set
spanned p low high = spanned_by p (range_from low high)

module _ (ms : List Module) where
  -- under the type that governs it, if one does
  abbrev pub told_number : Option TypeIn → Place → Amount → Result ℤ ToldError
  told_number None p a = integer_at ms p a
  told_number (Some t) p a = number_at ms t p a

  abbrev pub atom_number : Option TypeIn → Place → Atom → Read ℤ
  atom_number g p (amount a) = told_by (told_number g p a)
  atom_number g p _ = refused p not_a_number

  -- the number that a value in a module is
  abbrev pub value_number : Option TypeIn → ℕ → Value → Read ℤ
  value_number g m (atom at a) = atom_number g (place_in m at) a
  value_number g m v = refused (place_in m (value_place v)) not_a_number

  abbrev pub low_by : Option TypeIn → Place → Option Value → Bool → Read (Option ℤ)
  low_by g p None excluded = unbounded p excluded
  low_by g p (Some v) excluded = value_number g p.«module» v >>= λ n. raised p excluded n >>= λ n. Ok (Some n)

  abbrev pub high_by : Option TypeIn → Place → Option Value → Bool → Read (Option ℤ)
  high_by g p None excluded = unbounded p excluded
  high_by g p (Some v) excluded = value_number g p.«module» v >>= λ n. lowered p excluded n >>= λ n. Ok (Some n)

  -- a single value
  unfoldable pub single : Option TypeIn → Place → Value → Read Set
  single g p v = value_number g p.«module» v >>= λ n. spanned p (Some n) (Some n)

  -- a range
  unfoldable pub ranged : Option TypeIn → Place → Bound → Bound → Read Set
  ranged g p low high = do
    l ← low_by g p low.limit low.excluded
    h ← high_by g p high.limit high.excluded
    spanned p l h

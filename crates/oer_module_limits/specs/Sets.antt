-- What constraints allow, as sets of numbers (X.680, 49 to 51).
use Rattle.std.specs.Prelude.{ℕ, zero, suc, List, [], ◌∷◌, ◌++◌, Bool, true, false, Option, Some, None, Ok, if◌then◌else◌}
use Rattle.oer_module_bounds.specs.Sets.{Set, range, union, intersection, except, unknown, everything, sets_from, Constraint}
use Rattle.oer_module_lexer.specs.Token.{Spot}
use Rattle.oer_module_names.specs.declared.error.Place.{Place}
use Rattle.oer_module_syntax.specs.Tree.{Module, Tree, plain, list_of}
use Rattle.oer_module_syntax.specs.declared.word.Builtin.{Builtin}
use Rattle.oer_module_syntax.specs.declared.word.Builtin.TheVariants as bi
use Rattle.oer_module_terms.specs.Constraints.{constraints_at}
use Rattle.oer_module_terms.specs.Trees.{Value, Bound, Elements, Simple, Sets, no_sets, set}
use Rattle.oer_module_terms.specs.Trees as terms
use Rattle.oer_module_values.specs.Errors.{place_in, in_module}
use Rattle.oer_module_values.specs.Kept.{kept}
use Rattle.oer_module_values.specs.Looks.{place_of}
use Rattle.oer_module_values.specs.Types.{TypeIn, Given, Meaning}
use Rattle.oer_module_values.specs.Types as values
use Rattle.oer_module_limits.specs.Ends.{single, ranged}
use Rattle.oer_module_limits.specs.Errors.{Read, refused, ◌>>=◌, told_by, too_deep, inapplicable, contained, value_set, differs}
use Rattle.oer_module_limits.specs.Marks.{is_extensible, is_mixed}

-- what the numbers of a set are: those of an INTEGER, which governs them, or of SIZE; or the sizes of values
pub data Measure : Type 0 where
  number : Option TypeIn → Measure
  size : Measure

-- What a type of a kind has: strings and lists have sizes (51.1).
abbrev pub has_size : Builtin → Bool
has_size bi.BitString = true
has_size bi.OctetString = true
has_size bi.CharacterString = true
has_size bi.BmpString = true
has_size bi.GeneralString = true
has_size bi.GraphicString = true
has_size bi.Ia5String = true
has_size bi.Iso646String = true
has_size bi.NumericString = true
has_size bi.PrintableString = true
has_size bi.TeletexString = true
has_size bi.T61String = true
has_size bi.UniversalString = true
has_size bi.Utf8String = true
has_size bi.VideotexString = true
has_size bi.VisibleString = true
has_size bi.ObjectDescriptor = true
has_size _ = false

abbrev pub has_numbers : Builtin → Bool
has_numbers bi.Integer = true
has_numbers _ = false

-- what is measured by a type itself, and its own constraints
abbrev pub plain_row : Measure → TypeIn → Builtin → List Spot → ℕ → Read (Measure × List Spot)
plain_row (number g) t b cs at = if has_numbers b then Ok (number (Some t), cs) else refused (place_in t.«module» at) inapplicable
plain_row size t b cs at = if has_size b then Ok (size, cs) else refused (place_in t.«module» at) inapplicable

abbrev pub list_row : Measure → TypeIn → Bool → List Spot → ℕ → Read (Measure × List Spot)
list_row (number g) t sized cs at = refused (place_in t.«module» at) inapplicable
list_row size t sized cs at = Ok (if sized then number None else size, cs)

abbrev pub own_by : Measure → TypeIn → Tree → Read (Measure × List Spot)
own_by k t (plain at b items cs) = plain_row k t b cs at
own_by k t (list_of at b sized cs name item) = list_row k t sized cs at
own_by k t u = refused (place_in t.«module» (place_of u)) inapplicable

abbrev pub own : Measure → TypeIn → Read (Measure × List Spot)
own k t = own_by k t t.type

-- what is measured where a reference to such a type stands
abbrev pub measure_of : Measure → TypeIn → Measure
measure_of (number g) t = number (Some t)
measure_of size t = size

-- beside what was found
abbrev pub added : {A : Type 0} → List A → Read (List A) → Read (List A)
added before r = r >>= λ more. Ok (before ++ more)

-- constraints in a row, from tokens of a module
unfoldable pub row_read : ℕ → List Spot → Read (List terms.Constraint)
row_read m ts = told_by (in_module m (constraints_at 64 (kept ts))) >>= λ cs. Ok cs.0

-- what is said of each, joined
abbrev pub joined : {A B : Type 0} → (A → Read (List B)) → List A → Read (List B)
joined one [] = Ok []
joined one (x ∷ xs) = one x >>= λ ys. joined one xs >>= λ more. Ok (ys ++ more)

abbrev pub single_of : {A : Type 0} → Read A → Read (List A)
single_of r = r >>= λ x. Ok (x ∷ [])

abbrev pub listed : Sets → List Elements
listed no_sets = []
listed (set e es) = e ∷ listed es

-- FROM (51.7) and narrowings (51.8 to 51.10), which a whole number doesn't have
abbrev pub unseen_by : Measure → Place → Read Set
unseen_by (number g) p = refused p inapplicable
unseen_by size p = Ok unknown

-- where the set of elements is told, for each place and measure
module _ (found : Measure → Place → Elements → Read Set) where
  abbrev pub each : Measure → Place → List Elements → Read (List Set)
  each k p es = joined (λ e. single_of (found k p e)) es

  -- a constraint in a module (49.6, 50.1)
  abbrev pub constraint : Measure → ℕ → terms.Constraint → Read Constraint
  constraint k m (terms.subtype at root more exception) =
      if is_mixed root then refused (place_in m at) differs
      else (found k (place_in m at) root >>= λ s. Ok (record { root = s; extensible = is_extensible (terms.subtype at root more exception) }))
  constraint k m (terms.general at kind ts) = Ok (record { root = unknown; extensible = false })

  abbrev pub constraints : Measure → ℕ → List terms.Constraint → Read (List Constraint)
  constraints k m cs = joined (λ c. single_of (constraint k m c)) cs

  -- constraints in a row, as tokens
  unfoldable pub row : Measure → ℕ → List Spot → Read (List Constraint)
  row k m ts = row_read m ts >>= constraints k m

  abbrev pub given_row : Measure → Given → Read (List Constraint)
  given_row k (values.constraints m ts) = row k m ts
  given_row k (values.set m ts) = refused (place_in m 0) value_set

  abbrev pub given_rows : Measure → List Given → Read (List Constraint)
  given_rows k gs = joined (given_row k) gs

  -- a type's own constraints
  unfoldable pub own_rows : Measure → TypeIn → Read (List Constraint)
  own_rows k t = own k t >>= λ mine. row mine.0 t.«module» mine.1

  -- the constraints of what a type stands for, the nearest last
  unfoldable pub rows : Measure → Meaning → Read (List Constraint)
  rows k r = own_rows k r.of >>= λ first. added first (given_rows (measure_of k r.of) r.given)

  -- SIZE (51.5); a marker there is that of the constraint in which SIZE stands
  abbrev pub sized_by : Measure → Place → terms.Constraint → Read Set
  sized_by (number g) p c = refused p inapplicable
  sized_by size p c = constraint (number None) p.«module» c >>= λ x. Ok x.root

module _ (ms : List Module) where
  abbrev pub single_by : Measure → Place → Value → Read Set
  single_by (number g) p v = single ms g p v
  single_by size p v = Ok unknown

  abbrev pub range_by : Measure → Place → Bound → Bound → Read Set
  range_by (number g) p low high = ranged ms g p low high
  range_by size p low high = refused p inapplicable

  -- elements that hold no other set (51)
  unfoldable pub simple_by : Measure → Place → Simple → Read Set
  simple_by k p (terms.value v) = single_by k p v
  simple_by k p (terms.range at low high) = range_by k (place_in p.«module» at) low high
  simple_by k p (terms.narrowing at kind ts) = unseen_by k (place_in p.«module» at)
  simple_by k p (terms.type t) = refused p contained

  unfoldable pub set_by : (Measure → Place → Elements → Read Set) → Measure → Place → Elements → Read Set
  set_by found k p (terms.union es) = each found k p (listed es) >>= λ ss. Ok (union (sets_from ss))
  set_by found k p (terms.intersection es) = each found k p (listed es) >>= λ ss. Ok (intersection (sets_from ss))
  set_by found k p (terms.except e x) = found k p e >>= λ s. found k p x >>= λ r. Ok (except s r)
  set_by found k p (terms.all_except x) = found k p x >>= λ r. Ok (except (range everything) r)
  set_by found k p (terms.size at c) = sized_by found k (place_in p.«module» at) c
  set_by found k p (terms.alphabet at c) = unseen_by k (place_in p.«module» at)
  set_by found k p (terms.simple e) = simple_by k p e

  -- The set of elements in a constraint at a place. The number is how many levels of sets may nest.
  unfoldable pub set_at : ℕ → Measure → Place → Elements → Read Set
  set_at zero k p e = refused p too_deep
  set_at (suc levels) k p e = set_by (set_at levels) k p e

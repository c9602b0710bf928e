-- The range of an INTEGER and that of sizes, where readers don't differ on the octets (X.696, 8.2, 10 and 13 to 18).
use Rattle.std.specs.Prelude.{ℕ, ℤ, pos, negsuc, int_le, List, [], ◌∷◌, ◌==◌, Bool, false, not, ◌&&◌, Option, Some, None, Ok, if◌then◌else◌}
use Rattle.std.specs.Ordering.{int_eq}
use Rattle.oer_module_bounds.specs.Hull.{effective}
use Rattle.oer_module_bounds.specs.Loose.{loose_effective}
use Rattle.oer_module_bounds.specs.Sets.{Span, Constraint}
use Rattle.oer_module_names.specs.declared.error.Place.{Place}
use Rattle.oer_module_syntax.specs.Tree.{Module}
use Rattle.oer_module_values.specs.Errors.{place_in}
use Rattle.oer_module_values.specs.Looks.{place_of}
use Rattle.oer_module_values.specs.Types.{TypeIn, Meaning, meaning}
use Rattle.oer_module_limits.specs.Errors.{Read, refused, ◌>>=◌, told_by, empty, differs}
use Rattle.oer_module_limits.specs.Sets.{Measure, number, size, rows, set_at}

-- no number is below n, or above it
abbrev pub is_from : ℤ → Option ℤ → Bool
is_from n None = false
is_from n (Some low) = int_le n low

abbrev pub is_to : ℤ → Option ℤ → Bool
is_to n None = false
is_to n (Some high) = int_le high n

-- in how many octets, 0 for as many as it takes (10.3 and 10.4)
abbrev pub unsigned_octets : Option ℤ → ℕ
unsigned_octets high =
    if is_to (pos 255) high then 1
    else if is_to (pos 65535) high then 2
    else if is_to (pos 4294967295) high then 4
    else if is_to (pos 18446744073709551615) high then 8
    else 0

abbrev pub signed_octets : Option ℤ → Option ℤ → ℕ
signed_octets low high =
    if is_from (negsuc 127) low && is_to (pos 127) high then 1
    else if is_from (negsuc 32767) low && is_to (pos 32767) high then 2
    else if is_from (negsuc 2147483647) low && is_to (pos 2147483647) high then 4
    else if is_from (negsuc 9223372036854775807) low && is_to (pos 9223372036854775807) high then 8
    else 0

-- two ranges give a number the same octets: its sign and width are the same
abbrev pub same_form : Span → Span → Bool
same_form r s =
    if is_from (pos 0) r.low then is_from (pos 0) s.low && unsigned_octets r.high == unsigned_octets s.high
    else not (is_from (pos 0) s.low) && signed_octets r.low r.high == signed_octets s.low s.high

-- sizes are fixed where there is one alone; none is below 0
abbrev pub is_fixed : Option ℤ → Option ℤ → Bool
is_fixed low None = false
is_fixed None (Some high) = int_eq (pos 0) high
is_fixed (Some low) (Some high) = int_eq low high

-- two ranges of sizes give a value the same octets
abbrev pub same_sizes : Span → Span → Bool
same_sizes r s = if is_fixed r.low r.high then is_fixed s.low s.high else not (is_fixed s.low s.high)

-- ---- constraints in a row, the parent's first

abbrev pub unmarked : Constraint → Constraint
unmarked c = record { root = c.root; extensible = false }

-- As X.680 takes them: what a constraint is applied to has no extension marker (50.8). So each is without it but the last.
abbrev pub serially : List Constraint → List Constraint
serially [] = []
serially (c ∷ []) = c ∷ []
serially (c ∷ d ∷ cs) = unmarked c ∷ serially (d ∷ cs)

-- The range that X.680 gives, where values have the same octets under it and under the widest: to that neither EXCEPT is a bound, nor a
-- constraint with a marker, whatever follows it (X.696, 8.2 alone). What readers take lies between the two. Empty where X.680's is.
abbrev pub judged : (Span → Span → Bool) → Place → Option Span → Option Span → Read Span
judged same p None widest = refused p empty
judged same p (Some r) None = refused p differs
judged same p (Some r) (Some s) = if same r s then Ok r else refused p differs

abbrev pub type_place : TypeIn → Place
type_place t = place_in t.«module» (place_of t.type)

-- two ranges of what is measured give values the same octets
abbrev pub same_octets : Measure → Span → Span → Bool
same_octets (number g) r s = same_form r s
same_octets size r s = same_sizes r s

module _ (ms : List Module) where
  -- the range of what is measured, of what a type at a place stands for
  unfoldable pub range_of : Measure → Place → Meaning → Read Span
  range_of k p m = do
    cs ← rows (set_at ms 255) k m
    judged (same_octets k) p (effective (serially cs)) (loose_effective cs)

  -- the range of an INTEGER, and that of the sizes of a string or a list
  abbrev pub integer_range : Place → Meaning → Read Span
  integer_range p m = range_of (number None) p m

  abbrev pub size_range : Place → Meaning → Read Span
  size_range p m = range_of size p m

  -- the sizes of a type
  unfoldable pub size_limits : TypeIn → Read Span
  size_limits t = told_by (meaning ms t) >>= size_range (type_place t)

-- The text of ranges, sizes and items, as docs/NOTATION.md has it in "Printing".
use Rattle.std.specs.Prelude.{ℕ, suc, ◌^◌, ℤ, pos, negsuc, int_lt, nat_lt, List, [], ◌∷◌, ◌++◌, length, ◌==◌, Bool, false}
use Rattle.std.specs.Prelude.{Option, Some, None, option_and_then, option_map, Ok, codes, if◌then◌else◌}
use Rattle.std.specs.Fmt.{signed_decimal}
use Rattle.std.specs.Ordering.{int_eq}
use Rattle.oer_model.specs.declared.size.Size.{Size}
use Rattle.oer_module_bounds.specs.Sets.{Span}
use Rattle.oer_module_text.specs.Errors.{Read, place_in, ◌>>=◌}
use Rattle.oer_module_text.specs.Room.{Room, put, take_part}
use Rattle.oer_module_leaves.specs.Numbered.{NumberedItem, Numbered}
use Rattle.oer_module_leaves.specs.declared.text.Sizes.{Sizes as RawSizes}

-- ---- ranges

-- nothing where there is no end
abbrev pub range_text : Option ℤ → Option ℤ → List ℕ
range_text None None = []
range_text None (Some high) = codes " (MIN.." ++ (signed_decimal high ++ codes ")")
range_text (Some low) None = codes " (" ++ (signed_decimal low ++ codes "..MAX)")
range_text (Some low) (Some high) =
    if int_eq low high then codes " (" ++ (signed_decimal low ++ codes ")")
    else codes " (" ++ (signed_decimal low ++ (codes ".." ++ (signed_decimal high ++ codes ")")))

abbrev pub put_range : Span → Room → Room
put_range s r = put (range_text s.low s.high) r

-- ---- sizes

-- the sizes from low to high; an absent upper end is no bound
pub record Sizes : Type 0 where
  pub low : ℤ
  pub high : Option ℤ

abbrev pub sizes_of : RawSizes → Sizes
sizes_of s = record { low = s.low; high = s.high }

-- no size is below 0
abbrev pub low_end : Option ℤ → ℤ
low_end None = pos 0
low_end (Some n) = if int_lt (pos 0) n then n else pos 0

abbrev pub sizes_within : Span → Sizes
sizes_within s = record { low = low_end s.low; high = s.high }

abbrev pub fixed_by : ℤ → Option ℤ → Option ℤ
fixed_by low None = None
fixed_by low (Some high) = if int_eq low high then Some high else None

-- the one size, if there is one alone
abbrev pub fixed : Sizes → Option ℤ
fixed s = fixed_by s.low s.high

-- a number of 64 bits without a sign
abbrev pub long : ℤ → Option ℕ
long (pos n) = if nat_lt n (2 ^ 64) then Some n else None
long (negsuc n) = None

abbrev pub size_above : Option ℤ → ℕ → Option Size
size_above None low = Some (record { low = low; high = None })
size_above (Some high) low = option_map (λ n. record { low = low; high = Some n }) (long high)

-- the size as our types have it, if 64 bits hold both ends
abbrev pub size_of : Sizes → Option Size
size_of s = option_and_then (size_above s.high) (long s.low)

-- nothing where every size is allowed
abbrev pub size_text : ℤ → Option ℤ → List ℕ
size_text low None = if int_eq low (pos 0) then [] else codes " (SIZE(" ++ (signed_decimal low ++ codes "..MAX))")
size_text low (Some high) =
    if int_eq low high then codes " (SIZE(" ++ (signed_decimal low ++ codes "))")
    else codes " (SIZE(" ++ (signed_decimal low ++ (codes ".." ++ (signed_decimal high ++ codes "))")))

abbrev pub put_size : Sizes → Room → Room
put_size s r = put (size_text s.low s.high) r

-- ---- items

-- the marker stands before the item of that index
abbrev pub is_at : Option ℕ → ℕ → Bool
is_at None i = false
is_at (Some n) i = n == i

-- what stands before the item of an index
abbrev pub before : Option ℕ → ℕ → List ℕ
before marker i = if i == 0 then [] else if is_at marker i then codes ", ..., " else codes ", "

-- what stands behind so many items
abbrev pub closing : Option ℕ → ℕ → List ℕ
closing marker n = if is_at marker n then codes ", ...}" else codes "}"

abbrev pub item_text : NumberedItem → List ℕ
item_text i = i.name ++ (codes "(" ++ (signed_decimal i.number ++ codes ")"))

-- Items of a module from an index on. Each takes the room of one part, at its place.
abbrev pub items_from : ℕ → Option ℕ → ℕ → List NumberedItem → Room → Read Room
items_from m marker i [] r = Ok r
items_from m marker i (x ∷ xs) r =
    take_part (place_in m x.at) r >>= λ s. items_from m marker (suc i) xs (put (item_text x) (put (before marker i) s))

-- all items, and what ends them
unfoldable pub items_at : ℕ → Numbered → Room → Read Room
items_at m e r = items_from m e.marker 0 e.items r >>= λ s. Ok (put (closing e.marker (length e.items)) s)

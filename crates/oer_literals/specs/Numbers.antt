-- Numbers in decimal: the number that a text spells, if there is one in its range.
use Rattle.std.specs.Prelude.{ℕ, ◌^◌, nat_lt, ℤ, pos, negsuc, int_le, List, length, Bool, ◌&&◌, Option, Some, None, if◌then◌else◌}
use Rattle.std.specs.Str.Parse.{digits_value, signed_digits_value, without_leading_sign, without_leading_plus}
use Rattle.std.specs.Str.{all_ascii_digits}

abbrev pub is_numeral : List ℕ → Bool
is_numeral w = nat_lt 0 (length w) && all_ascii_digits w

-- the number that the text is, where it is one from low to high
abbrev pub integer_within : ℤ → ℤ → List ℕ → Option ℤ
integer_within low high w =
    if is_numeral (without_leading_sign w) && (int_le low (signed_digits_value 10 w) && int_le
    (signed_digits_value 10 w) high) then Some (signed_digits_value 10 w) else None

-- values and bounds of INTEGER
unfoldable pub integer_of : List ℕ → Option ℤ
integer_of w = integer_within (negsuc 170141183460469231731687303715884105727) (pos 170141183460469231731687303715884105727) w

-- numbers of items
unfoldable pub item_number_of : List ℕ → Option ℤ
item_number_of w = integer_within (negsuc 9223372036854775807) (pos 9223372036854775807) w

-- the number that the text is, where it is one below the limit and not negative
abbrev pub natural_below : ℕ → List ℕ → Option ℕ
natural_below limit w = if is_numeral (without_leading_plus w) && nat_lt (digits_value 10
    (without_leading_plus w)) limit then Some (digits_value 10 (without_leading_plus w)) else None

-- sizes
unfoldable pub size_of : List ℕ → Option ℕ
size_of w = natural_below (2 ^ 64) w

-- numbers of tags
unfoldable pub tag_number_of : List ℕ → Option ℕ
tag_number_of w = natural_below (2 ^ 32) w

-- arcs of object identifiers
unfoldable pub arc_of : List ℕ → Option ℕ
arc_of w = natural_below (2 ^ 128) w

-- places of additions
unfoldable pub place_of : List ℕ → Option ℕ
place_of w = natural_below (2 ^ 16) w

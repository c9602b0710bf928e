-- The whole numbers that digits write.
use Rattle.std.specs.Prelude.{◌≡◌, ℕ, ◌^◌, nat_lt, nat_le, ℤ, pos, neg_ℤ, List, length, Bool, ◌&&◌, Option, Some, None, if◌then◌else◌}
use Rattle.std.specs.Str.Parse.{IsNumeral, digits_value, without_leading_plus}
use Rattle.std.specs.Str.{all_ascii_digits}

-- with a sign or without
abbrev pub signed : Bool → ℕ → ℤ
signed negative n = if negative then neg_ℤ (pos n) else pos n

-- The digits and the sign write the number (12.8, 19.1). A plus before the digits means nothing; no token has one.
pub record IsWritten (negative : Bool) (w : List ℕ) (z : ℤ) : Type 0 where
  pub numeral : IsNumeral 10 (without_leading_plus w)
  pub is : z ≡ signed negative (digits_value 10 (without_leading_plus w))

-- ---- as the code has it

abbrev pub is_numeral : List ℕ → Bool
is_numeral w = nat_lt 0 (length w) && all_ascii_digits w

-- the numbers of 128 bits
abbrev pub below_zero : ℕ → Option ℤ
below_zero n = if nat_le n (2 ^ 127) then Some (neg_ℤ (pos n)) else None

abbrev pub above_zero : ℕ → Option ℤ
above_zero n = if nat_lt n (2 ^ 127) then Some (pos n) else None

abbrev pub in_range : Bool → ℕ → Option ℤ
in_range negative n = if negative then below_zero n else above_zero n

unfoldable pub whole_of : Bool → List ℕ → Option ℤ
whole_of negative w =
    if is_numeral (without_leading_plus w) then in_range negative (digits_value 10 (without_leading_plus w)) else None

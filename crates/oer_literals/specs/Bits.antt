-- Bits as digits 0 and 1.
use Rattle.std.specs.Prelude.{ℕ, zero, suc, ◌+◌, ◌*◌, ◌==◌, List, [], ◌∷◌, drop, slice_index, Bool, true, false, if◌then◌else◌}

-- the digit of a bit
abbrev pub bit_digit : Bool → ℕ
bit_digit true = 49
bit_digit false = 48

-- the digit 1
abbrev pub is_one : ℕ → Bool
is_one c = c == 49

-- ---- octets of digits

-- 1 for the digit 1
abbrev pub one_at : List ℕ → ℕ → ℕ
one_at w i = if slice_index w i == 49 then 1 else 0

-- the octet of the first eight digits, with zeros for those that are missing
unfoldable pub octet_of : List ℕ → ℕ
octet_of w = 128 * one_at w 0 + 64 * one_at w 1 + 32 * one_at w 2 + 16 * one_at w 3 + 8 * one_at w 4 + 4 * one_at w 5 + 2 * one_at
    w 6 + one_at w 7

abbrev pub is_empty : List ℕ → Bool
is_empty [] = true
is_empty (x ∷ xs) = false

-- the octets of digits, eight each; the number bounds the turns, and the count of the digits is always enough
unfoldable pub octets_more : ℕ → List ℕ → List ℕ
octets_more zero w = []
octets_more (suc n) w = if is_empty w then [] else octet_of w ∷ octets_more n (drop 8 w)

-- The numbers for which octets stand, big-endian (X.696, 10.1 to 10.4).
use Rattle.std.specs.Prelude.{ℕ, ◌+◌, ◌*◌, ◌^◌, List, [], ◌∷◌, length, get_or, leb, if◌then◌else◌, ℤ, pos, ◌-ℤ◌}

-- after the octets that stand for high
abbrev pub unsigned_after : ℕ → List ℕ → ℕ
unsigned_after high [] = high
unsigned_after high (x ∷ xs) = unsigned_after (256 * high + x) xs

unfoldable pub unsigned : List ℕ → ℕ
unsigned w = unsigned_after 0 w

-- in two's complement: where the first bit is set, 2 to the number of bits less
unfoldable pub signed : List ℕ → ℤ
signed w = if leb 128 (get_or w 0 0) then pos (unsigned w) -ℤ pos (256 ^ length w) else pos (unsigned w)

abbrev pub natural : List ℕ → ℤ
natural w = pos (unsigned w)

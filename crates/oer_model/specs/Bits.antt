-- Bits of octets.
use Rattle.std.specs.Prelude.{◌≡◌, ℕ, ◌+◌, ◌-◌, ◌*◌, ◌/◌, ◌%◌, ◌^◌, ◌≤◌, List, [], ◌∷◌, ◌++◌, length, take, replicate, Bool, true, false, not, ◌&&◌, eqb}

-- the bit i of an octet; bit 7 is the most significant
unfoldable pub bit : ℕ → ℕ → Bool
bit x i = eqb ((x / 2 ^ i) % 2) 1

-- the bits of octets, the most significant first
abbrev pub bits_of : List ℕ → List Bool
bits_of [] = []
bits_of (x ∷ xs) = bit x 7 ∷ bit x 6 ∷ bit x 5 ∷ bit x 4 ∷ bit x 3 ∷ bit x 2 ∷ bit x 1 ∷ bit x 0 ∷ bits_of xs

abbrev pub all_false : List Bool → Bool
all_false [] = true
all_false (x ∷ xs) = not x && all_false xs

-- the first bit; false where there is none
abbrev pub first_bit : List Bool → Bool
first_bit [] = false
first_bit (x ∷ xs) = x

-- the bits after the first
abbrev pub later_bits : List Bool → List Bool
later_bits [] = []
later_bits (x ∷ xs) = xs

-- how many octets so many bits need
unfoldable pub octets_for : ℕ → ℕ
octets_for bits = (bits + 7) / 8

-- The preamble of a SEQUENCE (X.696, 16.2): p holds the bits s, and zeros to the octet's end.
abbrev pub IsPreamble : List Bool → List ℕ → Type 0
IsPreamble s p = (padding : List Bool) × (length p ≡ octets_for (length s)) × (bits_of p ≡ s ++ padding) × (all_false padding ≡ true)

-- The contents of a BIT STRING of no fixed size (X.696, 13.3): the number u of unused bits, from 0 to 7 and 0 without
-- octets, and the octets d of the bits s.
abbrev pub IsBits : List Bool → List ℕ → Type 0
IsBits s c = (u : ℕ) × (d : List ℕ) × (c ≡ u ∷ d) × (u ≤ 7) × (length d ≡ 0 → u ≡ 0) × (s ≡ take (length (bits_of d) - u) (bits_of d))

abbrev pub bit_value : Bool → ℕ
bit_value false = 0
bit_value true = 1

-- eight bits to an octet
abbrev pub packed : List Bool → List ℕ
packed (a ∷ b ∷ c ∷ d ∷ e ∷ f ∷ g ∷ h ∷ s) =
    (128 * bit_value a + 64 * bit_value b + 32 * bit_value c + 16 * bit_value d + 8 * bit_value e + 4 * bit_value f + 2 *
    bit_value g + bit_value h) ∷ packed s
packed _ = []

-- how many bits are missing to whole octets
abbrev pub spare_bits : ℕ → ℕ
spare_bits n = (8 - n % 8) % 8

-- the octets of s, with zeros at the end
unfoldable pub padded : List Bool → List ℕ
padded s = packed (s ++ replicate (spare_bits (length s)) false)

-- The shortest spellings, computed.
use Rattle.std.specs.Prelude.{ℕ, zero, suc, ◌+◌, ◌-◌, ◌*◌, ◌/◌, ◌%◌, ◌^◌, max, List, [], ◌∷◌, ◌++◌, length, cond, nat_lt, eqb, if◌then◌else◌, ℤ, pos, negsuc}
use Rattle.std.specs.Int.Digits.{digits_of}
use Rattle.oer_units.specs.Spelling.{class_number}
use Rattle.oer_units.specs.declared.tagging.Tag.{Tag}

-- the k lowest octets of n
abbrev pub big_endian : ℕ → ℕ → List ℕ
big_endian zero n = []
big_endian (suc k) n = big_endian k (n / 256) ++ (n % 256 ∷ [])

-- how many octets n needs, one at least
unfoldable pub octets_needed : ℕ → ℕ
octets_needed n = max 1 (length (digits_of 256 n))

-- the shortest octets that stand for n
unfoldable pub unsigned_octets : ℕ → List ℕ
unsigned_octets n = big_endian (octets_needed n) n

-- the shortest octets that stand for z in two's complement
unfoldable pub signed_octets : ℤ → List ℕ
signed_octets (pos n) = big_endian (octets_needed (2 * n)) n
signed_octets (negsuc m) = big_endian (octets_needed (2 * m)) (256 ^ octets_needed (2 * m) - suc m)

unfoldable pub length_octets : ℕ → List ℕ
length_octets n = cond (nat_lt n 128) (n ∷ []) ((128 + octets_needed n) ∷ unsigned_octets n)

-- a length, and what it counts
abbrev pub counted : List ℕ → List ℕ
counted w = length_octets (length w) ++ w

-- z in two's complement, in k octets
abbrev pub fixed_signed_octets : ℕ → ℤ → List ℕ
fixed_signed_octets k (pos n) = big_endian k n
fixed_signed_octets k (negsuc m) = big_endian k (256 ^ k - suc m)

unfoldable pub enumerated_octets : ℤ → List ℕ
enumerated_octets (pos n) = cond (nat_lt n 128) (n ∷ []) ((128 + length (signed_octets (pos n))) ∷ signed_octets (pos n))
enumerated_octets (negsuc n) = (128 + length (signed_octets (negsuc n))) ∷ signed_octets (negsuc n)

-- the digits of n in base 128, each with 128 added; none where n is 0; k: at least their number
abbrev pub upper_digits : ℕ → ℕ → List ℕ
upper_digits zero n = []
upper_digits (suc k) n = if eqb n 0 then [] else upper_digits k (n / 128) ++ (128 + n % 128) ∷ []

unfoldable pub base128_octets : ℕ → List ℕ
base128_octets n = upper_digits n (n / 128) ++ (n % 128) ∷ []

unfoldable pub tag_octets : Tag → List ℕ
tag_octets t = cond (nat_lt t.number 63) ((64 * class_number t.class + t.number) ∷ []) ((64 * class_number t.class + 63)
    ∷ base128_octets t.number)

-- subidentifiers, one after another
abbrev pub subidentifier_octets : List ℕ → List ℕ
subidentifier_octets [] = []
subidentifier_octets (x ∷ xs) = base128_octets x ++ subidentifier_octets xs

-- the contents of an object identifier
abbrev pub object_id_octets : List ℕ → List ℕ
object_id_octets (a ∷ b ∷ rest) = subidentifier_octets ((40 * a + b) ∷ rest)
object_id_octets _ = []

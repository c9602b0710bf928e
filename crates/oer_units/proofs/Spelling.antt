-- Spellings as records, in which their least forms are found.
use Rattle.std.specs.Int.Digits.{number_from_digits, AllBelowBase}
use Rattle.std.specs.Prelude.{ℕ, ◌+◌, ◌*◌, ◌^◌, ◌<◌, ◌≤◌, ◌≡◌, ◌⊎◌, List, [], ◌∷◌, ◌++◌, length, cond, nat_lt, ℤ, pos, negsuc, ◌-ℤ◌}

abbrev pub Octets : List ℕ → Type 0
Octets w = AllBelowBase 256 w

-- the number for which w stands, big-endian
abbrev pub unsigned : List ℕ → ℕ
unsigned w = number_from_digits 256 w

-- the same in two's complement
abbrev pub signed : List ℕ → ℤ
signed [] = pos 0
signed (o ∷ w) = cond (nat_lt o 128) (pos (unsigned (o ∷ w))) (pos (unsigned (o ∷ w)) -ℤ pos (256 ^ length (o ∷ w)))

-- b is a spelling, and no other spelling has fewer octets
pub record Shortest (Spelling : List ℕ → Type 0) (b : List ℕ) : Type 0 where
  pub spelling : Spelling b
  pub least : (c : List ℕ) → Spelling c → length b ≤ length c

-- 128 + k, and k octets which stand for it, k from 1 to 127
pub record Long (Stands : List ℕ → Type 0) (b : List ℕ) : Type 0 where
  pub w : List ℕ
  pub is : b ≡ (128 + length w) ∷ w
  pub some : 1 ≤ length w
  pub most : length w ≤ 127
  pub octets : Octets w
  pub stands : Stands w

-- the length determinant
abbrev pub Len : ℕ → List ℕ → Type 0
Len n b = ((b ≡ n ∷ []) × (n < 128)) ⊎ Long (λ w. unsigned w ≡ n) b

-- a counted number: a length, and that many octets which stand for it
pub record Counted (Stands : List ℕ → Type 0) (b : List ℕ) : Type 0 where
  pub l : List ℕ
  pub w : List ℕ
  pub is : b ≡ l ++ w
  pub some : 1 ≤ length w
  pub counts : Len (length w) l
  pub octets : Octets w
  pub stands : Stands w

abbrev pub CountedUnsigned : ℕ → List ℕ → Type 0
CountedUnsigned n b = Counted (λ w. unsigned w ≡ n) b

abbrev pub CountedSigned : ℤ → List ℕ → Type 0
CountedSigned x b = Counted (λ w. signed w ≡ x) b

pub record ShortEnum (x : ℤ) (b : List ℕ) : Type 0 where
  pub n : ℕ
  pub stands : pos n ≡ x
  pub is : b ≡ n ∷ []
  pub small : n < 128

abbrev pub EnumForm : ℤ → List ℕ → Type 0
EnumForm x b = ShortEnum x b ⊎ Long (λ w. signed w ≡ x) b

-- x is from -p/2 to p/2 - 1, for an even p
abbrev pub Within : ℕ → ℤ → Type 0
Within p (pos n) = 2 * n < p
Within p (negsuc n) = 2 * n < p

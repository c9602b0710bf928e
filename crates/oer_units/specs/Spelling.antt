-- The spellings of lengths, numbers, tags and object identifiers.
use Rattle.std.specs.Prelude.{◌≡◌, ◌≢◌, ℕ, ◌+◌, ◌*◌, ◌%◌, ◌^◌, ◌<◌, ◌≤◌, ◌⊎◌, List, [], ◌∷◌, ◌++◌, length, ℤ, pos}
use Rattle.oer_units.specs.Numbers.{unsigned, signed}
use Rattle.oer_units.specs.declared.tagging.Class.{Class}
use Rattle.oer_units.specs.declared.tagging.Class.TheVariants.{Universal, Application, Context, Private}
use Rattle.oer_units.specs.declared.tagging.Tag.{Tag}

-- The length determinant of n (X.696, 8.6): [n] with n < 128, or [128 + k] and k octets that stand for n, k from 1 to 127.
abbrev pub IsLength : ℕ → List ℕ → Type 0
IsLength n b = ((b ≡ n ∷ []) × (n < 128))
    ⊎ ((k : ℕ) × (w : List ℕ) × (b ≡ (128 + k) ∷ w) × (1 ≤ k) × (k ≤ 127) × (length w ≡ k) × (unsigned w ≡ n))

-- A length determinant, and then as many octets, which spell x by S.
abbrev pub IsCounted : {A : Type 0} → (A → List ℕ → Type 0) → A → List ℕ → Type 0
IsCounted S x b = (l : List ℕ) × (c : List ℕ) × (b ≡ l ++ c) × IsLength (length c) l × S x c

-- w isn't empty, and z is its number by f.
abbrev pub StandsFor : {A : Type 0} → (List ℕ → A) → A → List ℕ → Type 0
StandsFor f z w = (1 ≤ length w) × (f w ≡ z)

-- The number of an ENUMERATED (X.696, 11): [x] with x from 0 to 127, or [128 + k] and k octets that stand for it, k from 1 to 127.
abbrev pub IsEnumerated : ℤ → List ℕ → Type 0
IsEnumerated z b = ((x : ℕ) × (b ≡ x ∷ []) × (x < 128) × (z ≡ pos x))
    ⊎ ((k : ℕ) × (w : List ℕ) × (b ≡ (128 + k) ∷ w) × (1 ≤ k) × (k ≤ 127) × (length w ≡ k) × (signed w ≡ z))

-- The digits in base 128 of the number n, which goes on from high: 128 is added to each but the last.
abbrev pub IsDigits : ℕ → ℕ → List ℕ → Type 0
IsDigits high n [] = ⊥
IsDigits high n (x ∷ []) = (x < 128) × (n ≡ high * 128 + x)
IsDigits high n (x ∷ y ∷ w) = (128 ≤ x) × (x ≤ 255) × IsDigits (high * 128 + x % 128) n (y ∷ w)

-- The same of a whole number, without a leading zero digit (X.690, 8.19.2).
abbrev pub IsBase128 : ℕ → List ℕ → Type 0
IsBase128 n [] = ⊥
IsBase128 n (x ∷ w) = (x ≢ 128) × IsDigits 0 n (x ∷ w)

-- Bits 8 and 7 of a tag's first octet (X.696, 8.7.2.2).
abbrev pub class_number : Class → ℕ
class_number Universal = 0
class_number Application = 1
class_number Context = 2
class_number Private = 3

-- A tag (X.696, 8.7.2): its number up to 62 in the first octet, any other in base 128 after it.
abbrev pub IsTag : Tag → List ℕ → Type 0
IsTag t b = ((b ≡ (64 * class_number t.class + t.number) ∷ []) × (t.number ≤ 62))
    ⊎ ((w : List ℕ) × (b ≡ (64 * class_number t.class + 63) ∷ w) × (63 ≤ t.number) × (t.number < 2 ^ 32) × IsBase128 t.number w)

-- One spelling after another.
abbrev pub IsJoined : {A : Type 0} → (A → List ℕ → Type 0) → List A → List ℕ → Type 0
IsJoined S [] b = b ≡ []
IsJoined S (x ∷ xs) b = (b1 : List ℕ) × (b2 : List ℕ) × (b ≡ b1 ++ b2) × S x b1 × IsJoined S xs b2

-- A subidentifier (X.690, 8.19.2) below 2^128.
abbrev pub IsSubidentifier : ℕ → List ℕ → Type 0
IsSubidentifier n w = IsBase128 n w × (n < 2 ^ 128)

-- The contents of an OBJECT IDENTIFIER (X.690, 8.19.3 to 8.19.5): the first subidentifier stands for two arcs.
abbrev pub IsObjectId : List ℕ → List ℕ → Type 0
IsObjectId arcs c = (a : ℕ) × (b : ℕ) × (rest : List ℕ) × (arcs ≡ a ∷ b ∷ rest) × (a ≤ 2) × (a < 2 → b < 40)
    × IsJoined IsSubidentifier ((40 * a + b) ∷ rest) c

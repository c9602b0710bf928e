-- What holds of the spellings of units, and of the readers and the least forms of each.
use Rattle.std.specs.Prelude.{◌≡◌, ◌+◌, ◌^◌, ◌<◌, ◌≤◌, ℕ, ℤ, Bool, true, List, [], ◌∷◌, ◌++◌, length, FitsSigned}
use Rattle.std.specs.Int.{w64, w128}
use Rattle.oer_units.specs.declared.fault.Why.{Why}
use Rattle.oer_units.specs.declared.fault.Why.TheVariants.{End, Limit}
use Rattle.oer_units.specs.declared.tagging.Tag.{Tag}
use Rattle.oer_units.specs.declared.width.Width.{Width}
use Rattle.oer_units.specs.Width.{octets_of_width}
use Rattle.oer_units.specs.Octets.{IsShortest}
use Rattle.oer_units.specs.Numbers.{unsigned, signed, natural}
use Rattle.oer_units.specs.Spelling.{IsLength, IsCounted, StandsFor, IsEnumerated, IsSubidentifier}
use Rattle.oer_units.specs.Reader.{Place, at, got, refused}
use Rattle.oer_units.specs.Reading.{counted_length, is_int128, is_int64}

-- Of two spellings neither is a proper front of the other.
abbrev pub NoneBeginsAnother : {A : Type 0} → (A → List ℕ → Type 0) → Type 0
NoneBeginsAnother {A} Spells = (x y : A) (b c rest : List ℕ) → Spells x b → Spells y c → c ≡ b ++ rest → rest ≡ []

-- A list is a spelling of one thing at most.
abbrev pub EachSpellsOne : {A : Type 0} → (A → List ℕ → Type 0) → Type 0
EachSpellsOne {A} Spells = (x y : A) (b : List ℕ) → Spells x b → Spells y b → x ≡ y

-- Each x of the range has one shortest list of octets, and that is its least form.
abbrev pub HasOneShortest : {A : Type 0} → (A → List ℕ → Type 0) → (A → Type 0) → (A → List ℕ) → Type 0
HasOneShortest {A} Spells Range least = (x : A) → Range x
    → IsShortest (Spells x) (least x) × ((b : List ℕ) → IsShortest (Spells x) b → b ≡ least x)

-- ---- the kinds of units

abbrev pub IsUnsignedCounted : ℕ → List ℕ → Type 0
IsUnsignedCounted n b = IsCounted (StandsFor unsigned) n b

abbrev pub IsSignedCounted : ℤ → List ℕ → Type 0
IsSignedCounted z b = IsCounted (StandsFor signed) z b

-- ---- the ranges in which each number has a shortest list

-- what 127 octets hold
abbrev pub Is127Octets : ℕ → Type 0
Is127Octets n = n < 256 ^ 127

abbrev pub Is128Bits : ℤ → Type 0
Is128Bits z = FitsSigned w128 z

abbrev pub Is64Bits : ℤ → Type 0
Is64Bits z = FitsSigned w64 z

abbrev pub HasTagNumber : Tag → Type 0
HasTagNumber t = t.number < 2 ^ 32

-- ---- what is read

abbrev pub IsOctet : ℕ → List ℕ → Type 0
IsOctet x b = b ≡ x ∷ []

abbrev pub IsText : List ℕ → List ℕ → Type 0
IsText w b = b ≡ w

abbrev pub IsGroup : ℕ → List ℕ → List ℕ → Type 0
IsGroup n w b = (w ≡ b) × (length b ≡ n)

-- a number of n octets that passes the test
abbrev pub IsFixed : {A : Type 0} → (List ℕ → A) → (A → Bool) → ℕ → A → List ℕ → Type 0
IsFixed f test n z b = (length b ≡ n) × (f b ≡ z) × (test z ≡ true)

-- a number of as many octets
abbrev pub IsOfWidth : {A : Type 0} → (List ℕ → A) → Width → A → List ℕ → Type 0
IsOfWidth f width z b = (length b ≡ octets_of_width width) × (f b ≡ z)

abbrev pub IsUnsignedRead : ℤ → List ℕ → Type 0
IsUnsignedRead z b = (is_int128 z ≡ true) × IsCounted (StandsFor natural) z b

abbrev pub IsSignedRead : ℤ → List ℕ → Type 0
IsSignedRead z b = (is_int128 z ≡ true) × IsCounted (StandsFor signed) z b

abbrev pub IsEnumeratedRead : ℤ → List ℕ → Type 0
IsEnumeratedRead z b = (is_int64 z ≡ true) × IsEnumerated z b

-- a subidentifier of at most k octets, and how many it has
abbrev pub IsSubidentifierRead : ℕ → ℕ × ℕ → List ℕ → Type 0
IsSubidentifierRead k x b = IsSubidentifier x.0 b × (length b ≡ x.1) × (x.1 ≤ k)

-- A length is read where the bound allows as many octets after it. Of the determinants that may yet stand where t was taken,
-- v the octets that are supposed to follow t, an end speaks of those that need no more octets, a Limit of those that the bound
-- allows together with what they count, and every other refusal of all.
pub record ReadsLengths : Type 0 where
  pub sound : (p : Place) (n : ℕ) (q : Place) → counted_length p ≡ got n q
      → (b : List ℕ) × IsLength n b × (p.input ≡ b ++ q.input) × (p.left ≡ length b + q.left) × (n ≤ q.left)
  pub complete : (n : ℕ) (b rest : List ℕ) (m : ℕ) → IsLength n b → n ≤ m
      → counted_length (at (b ++ rest) (length b + m)) ≡ got n (at rest m)
  pub refusal : (p : Place) (why : Why) (rest : List ℕ) → counted_length p ≡ refused why rest
      → (t : List ℕ) × (p.input ≡ t ++ rest) × (length t ≤ p.left)
      × ((n : ℕ) (b u v : List ℕ) → IsLength n b → b ++ u ≡ t ++ v → (why ≡ End → v ≡ []) → (why ≡ Limit → length b + n ≤ p.left) → ⊥)
      × (why ≡ End → rest ≡ [])

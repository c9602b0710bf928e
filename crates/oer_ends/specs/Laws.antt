-- The laws.
use Rattle.std.specs.Prelude.{◌≡◌, ◌↔◌, ℕ, List, Some, false}
use Rattle.oer_model.specs.AsnType.{AsnType}
use Rattle.oer_nesting.specs.Deeper.{Deeper}
use Rattle.oer_ends.specs.Ends.{has_end}
use Rattle.oer_ends.specs.Nests.{NestsAt, nests_at}
use Rattle.oer_ends.specs.Opened.{opened}

-- With an extension marker in each end a type is the same with its ends replaced.
abbrev pub OpenedIsDeeper : Type 0
OpenedIsDeeper = (T : AsnType) → Deeper T (opened T)

-- A type without an end is itself.
abbrev pub EndlessIsOpen : Type 0
EndlessIsOpen = (T : AsnType) → has_end T ≡ false → opened T ≡ T

-- The plain function finds the place.
abbrev pub PlaceIsFound : Type 0
PlaceIsFound = (T : AsnType) (b : List ℕ) (n : ℕ) → (nests_at T b ≡ Some n) ↔ NestsAt T b n

-- By a type without an end no octets nest too deep.
abbrev pub EndlessNests : Type 0
EndlessNests = (T : AsnType) (b : List ℕ) (n : ℕ) → has_end T ≡ false → NestsAt T b n → ⊥

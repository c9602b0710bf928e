-- The laws. U is T with some of its ends replaced.
use Rattle.std.specs.Prelude.{◌≡◌, ◌↔◌, ℕ, ◌^◌, ◌<◌, List, length}
use Rattle.oer_units.specs.Octets.{IsOctets}
use Rattle.oer_units.specs.Reader.{Place, at, got}
use Rattle.oer_model.specs.AsnType.{AsnType}
use Rattle.oer_model.specs.AsnValue.{AsnValue}
use Rattle.oer_model.specs.Canonical.{canonical_octets}
use Rattle.oer_model.specs.Checking.{check_value}
use Rattle.oer_model.specs.Constraints.{KeepsLimits}
use Rattle.oer_model.specs.Encoding.{Encodes}
use Rattle.oer_model.specs.Filling.{filled}
use Rattle.oer_model.specs.Fits.{DefaultsFit, Fits}
use Rattle.oer_model.specs.Laws.{rewritten}
use Rattle.oer_model.specs.Reading.{read_value}
use Rattle.oer_model.specs.Strict.{IsCanonical}
use Rattle.oer_nesting.specs.Deeper.{Deeper, HasNoEnd}
use Rattle.oer_nesting.specs.Defaults.{DefaultsHaveNoEnd, HasFreeDefaults, HasLeafDefaults}
use Rattle.oer_nesting.specs.Free.{IsFree}

-- A value that meets no end of T fits U exactly if it fits T.
abbrev pub FitsAlike : Type 0
FitsAlike = (T U : AsnType) → Deeper T U → (v : AsnValue) → HasNoEnd T v → Fits T v ↔ Fits U v

-- It has the same encodings by both.
abbrev pub EncodesAlike : Type 0
EncodesAlike = (T U : AsnType) → Deeper T U → (v : AsnValue) (b : List ℕ) → HasNoEnd T v → Encodes T v b ↔ Encodes U v b

-- It is the same after defaults are filled in by both, where the defaults of T meet no end either.
abbrev pub FilledAlike : Type 0
FilledAlike = (T U : AsnType) → Deeper T U → DefaultsHaveNoEnd T → (v : AsnValue) → HasNoEnd T v → filled T v ≡ filled U v

-- It has the same canonical octets by both.
abbrev pub CanonicalAlike : Type 0
CanonicalAlike = (T U : AsnType) → Deeper T U → DefaultsHaveNoEnd T → (v : AsnValue) (b : List ℕ) → HasNoEnd T v
    → IsCanonical T v b ↔ IsCanonical U v b

-- The reader gives it by T exactly if it gives it by U, with the same octets taken.
abbrev pub ReadsAlike : Type 0
ReadsAlike = (T U : AsnType) → Deeper T U → KeepsLimits T → KeepsLimits U → (input : List ℕ) (n : ℕ) → IsOctets input
    → (v : AsnValue) (q : Place) → HasNoEnd T v → (read_value T (at input n) ≡ got v q) ↔ (read_value U (at input n) ≡ got v q)

-- Octets that are read as it are rewritten alike by both, where its canonical octets are fewer than 2 ^ 64.
abbrev pub RewritesAlike : Type 0
RewritesAlike = (T U : AsnType) → Deeper T U → DefaultsHaveNoEnd T → KeepsLimits T → KeepsLimits U → (input : List ℕ) (n : ℕ)
    → IsOctets input → (v : AsnValue) (q : Place) → HasNoEnd T v → read_value T (at input n) ≡ got v q
    → length (canonical_octets T v) < 2 ^ 64 → rewritten T (at input n) ≡ rewritten U (at input n)

-- The checker finds them canonical by T exactly if it does by U.
abbrev pub ChecksAlike : Type 0
ChecksAlike = (T U : AsnType) → Deeper T U → DefaultsHaveNoEnd T → KeepsLimits T → KeepsLimits U → DefaultsFit T → DefaultsFit U
    → (input : List ℕ) (n : ℕ) → IsOctets input → length input < 2 ^ 64 → (v : AsnValue) (q : Place) → HasNoEnd T v
    → read_value T (at input n) ≡ got v q → check_value T (at input n) ≡ check_value U (at input n)

-- Each type is itself with none of its ends replaced.
abbrev pub NoneReplaced : Type 0
NoneReplaced = (T : AsnType) → Deeper T T

-- Defaults of components whose types hold no other meet no end.
abbrev pub LeafDefaultsHaveNoEnd : Type 0
LeafDefaultsHaveNoEnd = (T : AsnType) → HasLeafDefaults T → DefaultsHaveNoEnd T

-- A value in which no CHOICE has chosen the tag of an end meets no end of a type that it fits.
abbrev pub FreeHasNoEnd : Type 0
FreeHasNoEnd = (T : AsnType) (v : AsnValue) → Fits T v → IsFree v → HasNoEnd T v

-- Defaults that fit meet no end where no CHOICE in one has chosen the tag of an end.
abbrev pub FreeDefaultsHaveNoEnd : Type 0
FreeDefaultsHaveNoEnd = (T : AsnType) → DefaultsFit T → HasFreeDefaults T → DefaultsHaveNoEnd T

-- The laws. A type of modules that contains itself is written out to a nesting.
use Rattle.std.specs.Prelude.{◌≡◌, ◌↔◌, ◌≤◌, ℕ, List, Ok}
use Rattle.oer_model.specs.AsnType.{AsnType}
use Rattle.oer_model.specs.AsnValue.{AsnValue}
use Rattle.oer_model.specs.Encoding.{Encodes}
use Rattle.oer_model.specs.Fits.{DefaultsFit}
use Rattle.oer_model.specs.Strict.{IsCanonical}
use Rattle.oer_module_syntax.specs.Tree.{Module}
use Rattle.oer_module_types.specs.Types.{typed}
use Rattle.oer_module_values.specs.Types.{TypeIn}
use Rattle.oer_nesting.specs.Deeper.{Deeper, HasNoEnd}
use Rattle.oer_nesting.specs.Defaults.{DefaultsHaveNoEnd, HasFreeDefaults}
use Rattle.oer_nesting.specs.Free.{IsFree}

-- P holds of each type of modules at a nesting and at one that isn't less, where it has a text at both.
abbrev pub OfBoth : (AsnType → AsnType → Type 0) → Type 0
OfBoth P = (ms : List Module) (n m : ℕ) (t : TypeIn) (x y : AsnType × List ℕ) → n ≤ m → typed ms n t ≡ Ok x → typed ms m t ≡ Ok y
    → P x.0 y.0

-- The second is the first with some of its ends replaced.
abbrev pub IsDeeper : Type 0
IsDeeper = OfBoth Deeper

-- A value that meets no end of the first has the same encodings by both.
abbrev pub EncodesAlike : Type 0
EncodesAlike = OfBoth (λ T U. (v : AsnValue) (b : List ℕ) → HasNoEnd T v → Encodes T v b ↔ Encodes U v b)

-- It has the same canonical octets by both, where the defaults of the first meet no end either.
abbrev pub CanonicalAlike : Type 0
CanonicalAlike = OfBoth (λ T U. DefaultsHaveNoEnd T → (v : AsnValue) (b : List ℕ) → HasNoEnd T v → IsCanonical T v b ↔ IsCanonical U v b)

-- What encodes a value by the first encodes it by the second, if no CHOICE in the value has chosen the tag of an end.
abbrev pub FreeEncodes : Type 0
FreeEncodes = OfBoth (λ T U. (v : AsnValue) (b : List ℕ) → IsFree v → Encodes T v b → Encodes U v b)

-- The canonical octets of such a value by the first are those by the second, if no CHOICE in a default has chosen that tag either.
abbrev pub FreeCanonical : Type 0
FreeCanonical = OfBoth (λ T U. DefaultsFit T → HasFreeDefaults T → (v : AsnValue) (b : List ℕ) → IsFree v → IsCanonical T v b
    → IsCanonical U v b)

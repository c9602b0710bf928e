-- What holds of names.
use Rattle.std.specs.Prelude.{◌≡◌, ◌↔◌, ℕ, List, Option, Some, Ok}
use Rattle.oer_model.specs.AsnType.{AsnType}
use Rattle.oer_model.specs.AsnValue.{AsnValue}
use Rattle.oer_model.specs.Constraints.{KeepsLimits}
use Rattle.oer_model.specs.Encoding.{Encodes}
use Rattle.oer_model.specs.Fits.{DefaultsFit}
use Rattle.oer_model.specs.Parts.{found}
use Rattle.oer_model.specs.WellFormed.{IsWellFormed}
use Rattle.oer_at.specs.Finding.{find_at}
use Rattle.oer_at.specs.Hops.{hops_of}
use Rattle.oer_at.specs.Meaning.{Means, Reaches}
use Rattle.oer_at.specs.declared.hop.Hop.{Hop}

-- The hops that are found are what the names mean.
abbrev pub FindsMeaning : Type 0
FindsMeaning = (T : AsnType) (names : List (List ℕ)) (hops : List Hop) → hops_of T names ≡ Ok hops → (U : AsnType) × Means T names hops U

-- In a well-formed type names mean nothing else; so where none are found they mean nothing.
abbrev pub MeansOneThing : Type 0
MeansOneThing = (T : AsnType) → IsWellFormed T → (names : List (List ℕ)) (hops : List Hop) (U : AsnType) → Means T names hops U → hops_of T names ≡ Ok hops

-- What is found in an encoding is what the hops reach there.
abbrev pub FindsReached : Type 0
FindsReached = (T : AsnType) → KeepsLimits T → DefaultsFit T → (v : AsnValue) (b : List ℕ) → Encodes T v b
    → (hops : List Hop) (U : Option AsnType) (s : List ℕ) → find_at (Some T) b hops ≡ found U s ↔ Reaches (Some T) b hops U s

-- What names reach in an encoding by a well-formed type is of the type that they mean.
abbrev pub ReachesMeant : Type 0
ReachesMeant = (T : AsnType) → IsWellFormed T → (names : List (List ℕ)) (hops : List Hop) (V : AsnType) → Means T names hops V
    → (b : List ℕ) (U : Option AsnType) (s : List ℕ) → Reaches (Some T) b hops U s → U ≡ Some V

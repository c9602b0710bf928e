-- What rewriting does with parts that the type doesn't know.
use Rattle.std.specs.Prelude.{◌≡◌, ℕ, List, length, None, Some, ◌⊎◌}
use Rattle.std.specs.Io.KnownBytes.{Appends}
use Rattle.oer_model.specs.AsnType.{AsnType}
use Rattle.oer_model.specs.AsnValue.{AsnValue}
use Rattle.oer_model.specs.Constraints.{KeepsLimits}
use Rattle.oer_model.specs.Encoding.{Encodes}
use Rattle.oer_model.specs.Fits.{DefaultsFit}
use Rattle.oer_model.specs.Parts.{EntersDefault, Step, Within}
use Rattle.oer_model.specs.Strict.{IsCanonical}
use Rattle.oer_decoder.specs.Front.{Takes}
use Rattle.oer_decoder.specs.Rewriting.{IsRewritten, Known}

-- A path that leads in c to the octets of a part that the type doesn't know leads to the same octets in b; and the other way round, unless
-- it enters a DEFAULT component that equals its default.
abbrev pub KeepsUnknown : AsnType → List ℕ → List ℕ → Type 0
KeepsUnknown T b c = (path : List Step) (s : List ℕ) → (Within (Some T) c path None s → Within (Some T) b path None s)
    × (Within (Some T) b path None s → Within (Some T) c path None s ⊎ EntersDefault T b path)

-- So it is of an encoding of a value, and that value's canonical octets.
abbrev pub CanonicalKeepsUnknown : Type 0
CanonicalKeepsUnknown = (T : AsnType) → KeepsLimits T → DefaultsFit T → (v : AsnValue) (b c : List ℕ) → Encodes T v b → IsCanonical T v c
    → KeepsUnknown T b c

-- So it is of the octets that `rewrite` took, and those that it appended.
abbrev pub RewritingKeepsUnknown : Type 0
RewritingKeepsUnknown = (T : AsnType) → KeepsLimits T → DefaultsFit T → (limit : ℕ) (known known' old new : Known) (done : ℕ × ℕ)
    → IsRewritten T limit known known' old new done
    → (v : AsnValue) × (b : List ℕ) × (c : List ℕ) × Takes T limit known known' v b × IsCanonical T v c × Appends old new c
    × (done ≡ (length b, length c)) × KeepsUnknown T b c

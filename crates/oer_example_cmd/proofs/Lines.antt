-- The line of a skeleton, and that it is taken.
use Rattle.std.proofs.Common.{◌≡◌, ◌≤◌, List, ℕ, false, Some, sym, ap, ◌∙◌, subst}
use Rattle.serde_json.specs.Data.{Data, depth}
use Rattle.serde_json.specs.Read.{read}
use Rattle.serde_json.specs.Written.{compact_text, has_float}
use Rattle.oer_model.specs.AsnType.{AsnType}
use Rattle.oer_model.specs.AsnValue.{AsnValue}
use Rattle.oer_model.specs.Fits.{Fits}
use Rattle.oer_model.specs.WellFormed.{IsWellFormed}
use Rattle.oer_json.specs.Made.{made}
use Rattle.oer_json.proofs.Complete.{taken_complete}
use Rattle.oer_json.proofs.Floats.{made_none}
use Rattle.oer_json.proofs.MadeDenotes.{made_taken}
use Rattle.oer_example_cmd.specs.Line.{IsTakenAs}
use Rattle.oer_example_cmd.proofs.Depths.{made_shallow}

pub line_is : (T : AsnType) (v w : AsnValue) (j : Data) (line : List ℕ) → j ≡ made T w → w ≡ v → (has_float j ≡ false → line ≡ compact_text j)
    → line ≡ compact_text (made T v)
line_is T v w j line e f text = let s = e ∙ ap (made T) f in text (ap has_float s ∙ made_none T v) ∙ ap compact_text s

pub line_taken : (T : AsnType) (v w : AsnValue) (j : Data) (line : List ℕ) → IsWellFormed T → Fits T w → j ≡ made T w → w ≡ v
    → (depth j ≤ 127 → read line ≡ Some j) → IsTakenAs T v line
line_taken T v w j line well fit e f reads =
    let s = e ∙ ap (made T) f in
    let fits : Fits T v = subst (Fits T) f fit in (
      reads (subst (λ (k : Data). depth k ≤ 127) (sym s) (made_shallow T v well)) ∙ ap (λ (k : Data). Some k) s,
      taken_complete T well (made T v) v (made_taken T well v fits),
    )

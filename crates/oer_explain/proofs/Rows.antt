-- The rows of octets, as they are printed and indented.
use Rattle.std.proofs.Common.{◌≡◌, ◌∙◌, ℕ, List, [], ◌++◌, Some, ap}
use Rattle.oer_model.specs.AsnType.{AsnType}
use Rattle.oer_layout.specs.Pages.{PrintsLinesOf}
use Rattle.oer_explain.specs.Octets.{IsRows, indented}

pub rows_made : (T : AsnType) (b old new lines rows : List ℕ) → PrintsLinesOf 100 T b (Some old) (Some new) → old ≡ [] → lines ≡ new
    → rows ≡ indented lines → IsRows T b rows
rows_made T b old new lines rows (text, is, adds) none same made =
    (text, is, made ∙ ap indented (same ∙ adds ∙ ap (λ (l : List ℕ). l ++ text) none))

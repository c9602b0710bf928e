-- What the code's answer tells.
use Rattle.std.proofs.Common.{◌≡◌, ◌↔◌, IfOk, Ok, Err, Option, Some, None, Result, option_map, refl, sym, ap, ◌∙◌}
use Rattle.std.specs.declared.alloc.AllocError.{AllocError}
use Rattle.oer_model.specs.AsnType.{AsnType}
use Rattle.oer_compare.specs.Difference.{differ}
use Rattle.oer_compare.specs.declared.difference.Difference as code_difference
use Rattle.oer_compare.specs.Extends.{Extends}
use Rattle.oer_compare.specs.Views.{seen}
use Rattle.oer_compare.proofs.Complete.{complete, some_none}

not_seen : (found : Option code_difference.Difference) → option_map seen found ≡ None → found ≡ None
not_seen None e = refl
not_seen (Some d) e = absurd (some_none _ e)

pub extends_told : (result : Result (Option code_difference.Difference) AllocError) (T U : AsnType) → IfOk result (λ found. option_map seen found ≡ differ T U)
    → IfOk result (λ found. (found ≡ None) ↔ Extends T U)
extends_told (Ok found) T U is = (
  λ e. (complete T U).0 (sym is ∙ ap (option_map seen) e),
  λ x. not_seen found (is ∙ (complete T U).1 x),
)
extends_told (Err e) T U is = tt

use Rattle.std.proofs.Common.{[], ◌∙◌, append-nil, sym, subst}
use Rattle.oer_module_values.proofs.Walks.{found}
use Rattle.oer_module_values.specs.Types.{Means, type_in}
use Rattle.oer_module_values.proofs.laws.types_are_sound.Goals as goal

pub returns : goal.returns
returns c = λ ms m t u gs h.
    let p = found ms 255 (type_in m t) [] _ h in
    subst (λ l. Means ms m t u l) (sym (p.1 ∙ append-nil p.0)) p.2

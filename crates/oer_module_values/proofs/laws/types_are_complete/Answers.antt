use Rattle.std.proofs.Common.{[], ◌∙◌, append-nil, ap, Ok}
use Rattle.oer_module_values.proofs.Walks.{comes}
use Rattle.oer_module_values.proofs.laws.types_are_complete.Goals as goal

pub returns : goal.returns
returns c = λ ms m t u gs h. let p = comes ms m t u gs h in (p.0, p.1 [] ∙ ap (λ l. Ok (record { of = u; given = l })) (append-nil gs))

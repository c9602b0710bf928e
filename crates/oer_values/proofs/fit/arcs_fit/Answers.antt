use Rattle.oer_model.proofs.fitting.Ranges.{arcs_from}
use Rattle.oer_values.proofs.fit.arcs_fit.Goals as goal

pub returns-in-len2-up : goal.returns-in-len2-up
returns-in-len2-up c = arcs_from c.args.arcs.now c.first_arcs_fit.result c.in-len2-up.len_at_least (λ k. (c.type_inv.arcs k).fits) c.first_arcs_fit.ensures

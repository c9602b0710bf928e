use Rattle.std.proofs.Common.{subst, string_bytes}
use Rattle.std.proofs.lemmas.Result.{IfOk-weaker}
use Rattle.oer_types.specs.Schema.{the_type}
use Rattle.oer_values.specs.ShapeView.{type_of}
use Rattle.oer_model.specs.WellFormed.{IsWellFormed}
use Rattle.oer_text.proofs.printing.print_type.Goals as goal

pub returns-clause-again : goal.returns-clause-again
returns-clause-again c =
    let w = subst (λ s. IsWellFormed (type_of s)) c.shape-shape.ensures.same c.shape-shape.ensures.well_formed in
    IfOk-weaker c.print_type.result _ _ (λ s h. c.printing.ensures (the_type c.args.schema.now) (string_bytes s) w h) c.print_type.ensures.text

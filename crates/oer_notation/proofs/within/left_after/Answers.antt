use Rattle.std.proofs.Common.{◌≡◌, ◌<◌, subst, ap, ◌∙◌}
use Rattle.oer_model.specs.Limits.{max_parts}
use Rattle.oer_model.specs.Nodes.{type_nodes}
use Rattle.oer_model.specs.WellFormed.{IsWellFormed}
use Rattle.oer_model.specs.declared.fault.SchemaFault.TheVariants.{TooManyParts}
use Rattle.oer_types.specs.Schema.{the_type}
use Rattle.oer_values.specs.ShapeView.{type_of}
use Rattle.oer_notation.specs.Views.{shared_type}
use Rattle.oer_notation.proofs.within.left_after.Goals as goal

pub returns-in_err-of_type : goal.returns-in_err-of_type
returns-in_err-of_type c =
    let T = shared_type c.args.schema.now in
    let same : type_of c.shape.result.now ≡ T = ap type_of c.shape.ensures.same ∙ ap the_type c.deref.ensures in
    let well : IsWellFormed T = subst IsWellFormed same c.shape.ensures.well_formed in
    absurd (well.faultless TooManyParts (subst (λ U. max_parts < type_nodes U) same c.in_err-of_type.ensures))

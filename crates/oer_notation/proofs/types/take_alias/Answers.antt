use Rattle.std.proofs.Common.{◌≡◌, ◌+◌, Ok, subst, sym, ap, ap₂, ◌∙◌}
use Rattle.oer_model.specs.Limits.{max_parts}
use Rattle.oer_model.specs.Nodes.{type_nodes}
use Rattle.oer_model.specs.WellFormed.{IsWellFormed}
use Rattle.oer_types.specs.Schema.{the_type}
use Rattle.oer_types.specs.declared.schema.Schema.{Schema}
use Rattle.oer_values.specs.ShapeView.{type_of}
use Rattle.oer_value_notation.specs.State.{state_of}
use Rattle.oer_notation.specs.Views.{known_by, shared_type}
use Rattle.oer_notation.proofs.Definitions.{definition_named}
use Rattle.oer_notation.proofs.types.take_alias.Goals as goal

pub returns : goal.returns
returns c =
    let T = shared_type c.in_ok-schema.schema.now in
    let same : type_of c.shape.result.now ≡ T = ap type_of c.shape.ensures.same ∙ ap the_type c.deref.ensures in
    let well : IsWellFormed T = subst IsWellFormed same c.shape.ensures.well_formed in
    let parts : c.in_ok-left.left + type_nodes T ≡ max_parts = subst (λ U. c.in_ok-left.left + type_nodes U ≡ max_parts) same c.in_ok-left.ensures.0 in
    definition_named c.first_fault.ensures.none (known_by c.args.types.now) (state_of c.args.cursor.now) c.in-Name.name.now T c.in_ok-left.left (sym c.in-Name.ensures) (sym c.in_ok-schema.ensures) well parts
    ∙ ap₂ (λ (x : Schema) s. Ok (the_type x, s)) (sym c.in-Ok.ensures) (sym c.bump.ensures)

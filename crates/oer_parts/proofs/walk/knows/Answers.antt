use Rattle.std.proofs.Common.{◌∙◌, ltb, length, ap, sym}
use Rattle.oer_model.specs.Parts.{knows}
use Rattle.oer_values.specs.ShapeView.{type_of}
use Rattle.oer_parts.specs.Walk.{step_of}
use Rattle.oer_checker.proofs.ShapeCases.{knows_addition, knows_component, not_known}
use Rattle.oer_parts.proofs.walk.knows.Goals as goal

pub returns-in_default : goal.returns-in_default
returns-in_default c = not_known c.args.shape.now c.in_default.not-Sequence _

pub returns-in-Component : goal.returns-in-Component
returns-in-Component c =
    ap (λ xs. ltb c.in-Component.index (length xs)) c.deref-fields.ensures.value
    ∙ knows_component c.args.shape.now c.in-Sequence.root c.in-Sequence.additions c.in-Component.index c.in-Sequence.is
    ∙ ap (λ s. knows (type_of c.args.shape.now) (step_of s)) (sym c.in-Component.is)

pub returns-in-Some : goal.returns-in-Some
returns-in-Some c =
    ap (λ xs. ltb c.in-Addition.index (length xs)) c.deref-additions.ensures.value
    ∙ knows_addition c.args.shape.now c.in-Sequence.root c.in-Sequence.additions c.in-Some.additions c.in-Addition.index c.in-Sequence.is c.in-Some.is
    ∙ ap (λ s. knows (type_of c.args.shape.now) (step_of s)) (sym c.in-Addition.is)

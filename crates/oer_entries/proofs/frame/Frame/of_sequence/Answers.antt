use Rattle.std.proofs.Common.{◌∙◌, ap, ap₂, refl, sym, None, Some}
use Rattle.oer_parts.specs.Walk.{step_of}
use Rattle.oer_parts.specs.declared.step.Step.{Step}
use Rattle.oer_parts.specs.declared.step.Step.TheVariants.{Addition as AdditionStep}
use Rattle.oer_values.specs.ShapeView.{sequence_with}
use Rattle.oer_entries.specs.Frames.{fresh, seen}
use Rattle.oer_entries.specs.Known.{Known, part_of}
use Rattle.oer_entries.proofs.Parts.{component_found, fresh_addition, no_component}
use Rattle.oer_entries.proofs.frame.Frame.of_sequence.Goals as goal

pub returns-in_err-field-in-Component : goal.returns-in_err-field-in-Component
returns-in_err-field-in-Component c = rw c.from_residual.ensures (
    no_component c.args.root.now c.args.additions.now c.in-Component.index c.args.step c.in-Component.is c.in_err-field-in-Component.ensures.lookup.3)

pub returns-in_ok-field-in-Component : goal.returns-in_ok-field-in-Component
returns-in_ok-field-in-Component c =
    let f = c.in_ok-field-in-Component.field.now in
    let found = c.in_ok-field-in-Component.ensures.lookup in
    c.component.ensures ∙ ap₂ (λ (s : Step) (k : Known). fresh (Some s) k 0 0) (sym c.in-Component.is)
    (component_found c.args.root.now c.args.additions.now c.in-Component.index f c.args.step c.in-Component.is found.3.0 found.1)

pub returns-in-Some : goal.returns-in-Some
returns-in-Some c =
    let i = c.in-Addition.index in
    let fs = c.args.root.now in
    let more = c.args.additions.now in
    let found = c.get-in-Addition.ensures.lookup in
    fresh_addition (seen c.addition.result) (AdditionStep i) i fs more c.in-Some.additions c.deref.result.now c.get-in-Addition.result
    refl c.in-Some.is c.deref.ensures.value found.3 found.1 c.addition.ensures
    ∙ ap (λ (s : Step). fresh (Some s) (part_of (sequence_with fs more) None (step_of s)) 0 0) (sym c.in-Addition.is)

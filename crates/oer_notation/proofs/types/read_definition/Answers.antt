use Rattle.std.proofs.Common.{Ok, Err, sym, ap, ◌∙◌}
use Rattle.oer_values.specs.ShapeView.{type_of}
use Rattle.oer_value_notation.specs.State.{state_of}
use Rattle.oer_notation.specs.Views.{known_by}
use Rattle.oer_value_notation.specs.declared.fault.TextFault.{TextFault}
use Rattle.oer_value_notation.specs.declared.fault.TextWhy.TheVariants.{Schema}
use Rattle.oer_notation.proofs.Definitions.{definition_ok, definition_fault}
use Rattle.oer_notation.proofs.types.read_definition.Goals as goal

pub returns-in-Ok : goal.returns-in-Ok
returns-in-Ok c =
    definition_ok c.first_fault.ensures.none (known_by c.args.types.now) (state_of c.args.cursor.now) (type_of c.in_ok-shape.shape) (state_of c.read_type.new.cursor) c.in_ok-shape.ensures.read c.in-Ok.ensures.1
    ∙ ap (λ S. Ok (type_of S, state_of c.read_type.new.cursor)) (sym c.in-Ok.ensures.0)

pub returns : goal.returns
returns c = λ _.
    definition_fault c.first_fault.ensures.first (known_by c.args.types.now) (state_of c.args.cursor.now) (type_of c.in_ok-shape.shape) (state_of c.read_type.new.cursor) c.in-Err.fault c.in_ok-shape.ensures.read c.in-Err.ensures.0
    ∙ ap (λ (e : TextFault). Err (record { at = e.at; why = Schema c.in-Err.fault })) (sym c.fault-at.ensures)

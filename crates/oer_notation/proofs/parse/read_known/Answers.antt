use Rattle.std.proofs.Common.{◌≤◌, Ok, sym, ap₂, ◌∙◌}
use Rattle.oer_values.specs.ShapeView.{type_of}
use Rattle.oer_model.specs.WellFormed.{depth}
use Rattle.oer_value_notation.specs.State.{state_of}
use Rattle.oer_notation.proofs.Definitions.{named_taken}
use Rattle.oer_notation.proofs.parse.read_known.Goals as goal

pub returns-clause-read : goal.returns-clause-read
returns-clause-read c =
    let T = type_of c.args.shape.now in
    let deep : depth (type_of c.args.shape.now) ≤ c.args.levels = c.is_within_depth.ensures.0 c.if-not-is_within_depth.false in
    named_taken c.args.levels T (state_of c.args.cursor.now) c.in-Some.left deep c.in-Some.ensures.0 ∙ ap₂ (λ a s. Ok (a, s)) (sym c.in_ok-shape.ensures) (sym c.bump.ensures)

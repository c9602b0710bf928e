use Rattle.oer_checker.specs.Places.{counted_as}
use Rattle.std.proofs.Common.{Err}
use Rattle.oer_rows.specs.Rows.{path_in, row, stay}
use Rattle.oer_rows.specs.declared.row.Role.TheVariants.{Unknown}
use Rattle.oer_units.specs.Reader.{group}
use Rattle.oer_checker.specs.Steps.{sized_length}
use Rattle.oer_checker.proofs.Exits.{at_stop}
use Rattle.oer_rows.proofs.LineSteps.{comes_on, row_stop, row_then, then_walks}
use Rattle.oer_rows.proofs.trace.list_unknown.Goals as goal

pub returns-in_err-counted : goal.returns-in_err-counted
returns-in_err-counted g c =
    rw (at_stop c.from_residual.result c.in_err-counted.field-0.0 c.from_residual.ensures.1)
    (row_stop g.T.TakeRow.takes counted_as c.args.spot.now _ _ _ c.args.cursor _ _ _ _ c.sized_length_at-answer.ensures
    _ c.in_err-counted.ensures)

pub returns-in_err-taken : goal.returns-in_err-taken
returns-in_err-taken g c =
    rw (at_stop c.from_residual-in_err-taken.result c.in_err-taken.field-0.0 c.from_residual-in_err-taken.ensures.1)
    (then_walks g.T.TakeRow.takes (Err c.in_err-taken.field-0.0) _ _ _ _ _ _ _ (row_then g.T.TakeRow.takes counted_as c.args.spot.now _ _ _ c.args.cursor _ _ sized_length
    (λ y. row c.args.spot.now.total (path_in c.args.spot.now) Unknown (group y.0) (λ w. stay)) c.sized_length_at-answer.ensures _ c.in_ok-counted.ensures)
    (row_stop g.T.TakeRow.takes (λ s. s.now) c.args.spot.now _ _ _ c.sized_length_at-answer.new.at _ _ _ (λ w. stay) c.group_at-answer.ensures
    _ c.in_err-taken.ensures))

pub returns : goal.returns
returns g c =
    comes_on g.T.TakeRow.takes _ _ _ _ _ _ _ _ _ (row_then g.T.TakeRow.takes counted_as c.args.spot.now _ _ _ c.args.cursor _ _ sized_length
    (λ y. row c.args.spot.now.total (path_in c.args.spot.now) Unknown (group y.0) (λ w. stay)) c.sized_length_at-answer.ensures _ c.in_ok-counted.ensures)
    (row_then g.T.TakeRow.takes (λ s. s.now) c.args.spot.now _ _ _ c.sized_length_at-answer.new.at _ _ _ (λ w. stay) c.group_at-answer.ensures
    _ c.in_ok-taken.ensures)

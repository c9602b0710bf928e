use Rattle.std.proofs.Common.{Ok, Err, sym}
use Rattle.oer_model.specs.Checking.{check_value}
use Rattle.oer_values.specs.ShapeView.{type_of}
use Rattle.oer_checker.specs.Places.{same}
use Rattle.oer_rows.specs.Rows.{path_in, stay}
use Rattle.oer_checker.proofs.Exits.{at_stop}
use Rattle.oer_rows.proofs.LineSteps.{leaf_row, row_stop, row_then, same_walks}
use Rattle.oer_rows.proofs.trace.list_leaf.Goals as goal

pub returns-in_err-taken : goal.returns-in_err-taken
returns-in_err-taken g c =
    let U = type_of c.args.shape.now in
    rw (at_stop c.from_residual.result c.in_err-taken.field-0.0 c.from_residual.ensures.1)
    (same_walks g.T.TakeRow.takes (Err c.in_err-taken.field-0.0) _ _ _ _ _ (sym (leaf_row U c.args.spot.now.total (path_in c.args.spot.now) c.requires))
    (row_stop g.T.TakeRow.takes same c.args.spot.now _ _ _ c.args.cursor _ _ (check_value U) (λ f. stay) c.check_leaf-answer.ensures _ c.in_err-taken.ensures))

pub returns : goal.returns
returns g c =
    let U = type_of c.args.shape.now in
    same_walks g.T.TakeRow.takes (Ok c.check_leaf-answer.new.at) _ _ _ _ _ (sym (leaf_row U c.args.spot.now.total (path_in c.args.spot.now) c.requires))
    (row_then g.T.TakeRow.takes same c.args.spot.now _ _ _ c.args.cursor _ _ (check_value U) (λ f. stay) c.check_leaf-answer.ensures _ c.in_ok-taken.ensures)

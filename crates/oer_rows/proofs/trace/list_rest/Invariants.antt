use Rattle.std.proofs.Common.{drop}
use Rattle.oer_checker.specs.BitView.{bits_in}
use Rattle.oer_checker.specs.Places.{place_of}
use Rattle.oer_rows.specs.Rows.{Comes, path_in, walk_rest}
use Rattle.oer_rows.proofs.trace.list_rest.Given as goal

abbrev pub invariant-loop-index : goal.invariant-loop-index
invariant-loop-index g l = Comes g.T.TakeRow.takes l.fn.taker l.taker
    (walk_rest l.spot.total (path_in l.spot) l.index (drop l.index (bits_in l.bits))) (place_of l.at)
    (walk_rest l.spot.total (path_in l.spot) l.known (drop l.known (bits_in l.bits))) (place_of l.cursor)

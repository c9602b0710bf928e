use Rattle.oer_lines_cmd.proofs.Taking.{taken_ended, taken_last}
use Rattle.oer_lines_cmd.proofs.reading.take_line.Goals as goal

pub returns-then-is_ended : goal.returns-then-is_ended
returns-then-is_ended g c =
    let first = c.drop_last-is_ended.ensures in
    taken_ended (g.R.Read.remaining c.args.input.now) (g.R.Read.remaining c.take_piece.new.input) c.take_piece.new.piece.items
    c.drop_last-is_ended.new.octets.items c.drop_last.new.octets.items c.drop_last-is_ended.result c.in_ok-take_piece.ensures
    (first.gone c.in_ok-take_piece.ensures.0) (first.dropped c.if-is_ended.true) c.drop_last.ensures.front c.if-is_ended.true

pub returns-else-is_ended : goal.returns-else-is_ended
returns-else-is_ended g c =
    let first = c.drop_last-is_ended.ensures in
    taken_last (g.R.Read.remaining c.args.input.now) (g.R.Read.remaining c.take_piece.new.input) c.take_piece.new.piece.items
    c.drop_last-is_ended.new.octets.items c.drop_last-is_ended.result c.in_ok-take_piece.ensures
    (first.gone c.in_ok-take_piece.ensures.0) (first.kept c.if-is_ended.false) first.ended c.if-is_ended.false

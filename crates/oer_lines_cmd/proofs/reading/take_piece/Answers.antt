use Rattle.oer_lines_cmd.proofs.Taking.{taken_piece}
use Rattle.oer_lines_cmd.proofs.reading.take_piece.Goals as goal

pub returns-in-Ok : goal.returns-in-Ok
returns-in-Ok g c =
    taken_piece _ _ c.clear.new.self.items _ c.clear.ensures.items c.in-Ok.ensures.stops c.in-Ok.ensures.none_lost c.in-Ok.ensures.bytes c.in-Ok.ensures.rest

use Rattle.std.proofs.Common.{arith}
use Rattle.oer_types.specs.Schema.{the_type}
use Rattle.oer_lines_cmd.proofs.Found.{found_rejected}
use Rattle.oer_lines_cmd.proofs.pieces.find_piece.Goals as goal

pub returns-in_default : goal.returns-in_default
returns-in_default g c = found_rejected (the_type c.args.schema.now) c.args.limit _ _ c.in-Err.fault c.in_default.not-Device c.in_default.not-Memory _ _ c.args.there
    c.in-Err.ensures c.in_default.not-Limit (omega (arith, c.if-fault-there.false))

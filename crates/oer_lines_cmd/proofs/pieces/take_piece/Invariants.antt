use Rattle.std.proofs.Common.{[]}
use Rattle.std.specs.Io.KnownBytes.{Consumes, prepend_known}
use Rattle.oer_lines_cmd.specs.Reading.{ahead_of}
use Rattle.oer_lines_cmd.proofs.pieces.take_piece.Given as goal

-- What stands on the input is as it was, though more of it is ahead.
abbrev pub invariant-loop : goal.invariant-loop
invariant-loop g l = Consumes (prepend_known (ahead_of l.fn.ahead) (g.R.Read.remaining l.fn.input)) (prepend_known (ahead_of l.ahead) (g.R.Read.remaining l.input)) []

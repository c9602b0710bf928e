use Rattle.std.proofs.Common.{◌≤◌}
use Rattle.std.specs.Io.KnownBytes.{prepend_known}
use Rattle.oer_types.specs.Schema.{the_type}
use Rattle.oer_lines_cmd.specs.Reading.{ahead_of}
use Rattle.oer_lines_cmd.specs.Stream.{pieces}
use Rattle.oer_lines_cmd.proofs.Looping.{SoFar, streams}
use Rattle.oer_lines_cmd.proofs.Messages.{by_path, pieces_told}
use Rattle.oer_lines_cmd.proofs.loop_over.answer_stream.Given as goal

-- The messages so far are answered.
abbrev pub invariant-loop-number : goal.invariant-loop-number
invariant-loop-number g l = (l.worst ≤ 2)
    × SoFar (pieces (the_type l.fn.schema) l.fn.asked.limit) (by_path (pieces_told l.fn.asked.tells_nesting l.fn.asked.task (the_type l.fn.schema) l.fn.asked.limit) l.fn.asked.task)
    (g.R.Read.remaining l.fn.input) (prepend_known (ahead_of l.ahead) (g.R.Read.remaining l.input)) l.number l.worst
    (streams (g.W.Write.contents l.fn.output) (g.W.Write.contents l.output) (g.E.Write.contents l.fn.errors) (g.E.Write.contents l.errors))

use Rattle.std.proofs.Common.{◌≡◌, ◌+◌, length}
use Rattle.std.specs.Io.KnownBytes.{Consumes}
use Rattle.oer_lines_cmd.proofs.frames.take_octets.Given as goal

-- The octets so far are taken.
abbrev pub invariant-loop-left : goal.invariant-loop-left
invariant-loop-left g l = Consumes (g.R.Read.remaining l.fn.input) (g.R.Read.remaining l.input) l.octets.items × (length l.octets.items + l.left ≡ l.count)

abbrev pub decreases-loop-left : goal.decreases-loop-left
decreases-loop-left g l = l.left

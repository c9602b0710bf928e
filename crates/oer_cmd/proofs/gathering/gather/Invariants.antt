use Rattle.std.proofs.Common.{length, ◌+◌, ◌-◌, ◌≡◌, ◌≤◌, suc}
use Rattle.std.specs.Io.KnownBytes.{Consumes}
use Rattle.oer_cmd.proofs.gathering.gather.Given as goal

-- what came is gathered, and no call failed
abbrev pub invariant-loop-room : goal.invariant-loop-room
invariant-loop-room g l = Consumes (g.R.Source.remaining l.fn.reader) (g.R.Source.remaining l.reader) l.octets.items
    × (g.R.Source.loan l.reader ≡ g.R.Source.loan l.fn.reader) × (g.R.Source.failed l.reader ≡ g.R.Source.failed l.fn.reader) × (length l.octets.items ≤ l.limit + 4096)

abbrev pub decreases-loop-room : goal.decreases-loop-room
decreases-loop-room g l = suc l.limit - length l.octets.items

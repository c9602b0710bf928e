use Rattle.std.proofs.Common.{◌≡◌, ◌≤◌, ◌-◌, List, ℕ, length}
use Rattle.std.specs.Io.KnownBytes.{Consumes}
use Rattle.oer_lines_cmd.proofs.frames.pass_over.Given as goal

-- As many octets are passed over.
abbrev pub invariant-loop-passed : goal.invariant-loop-passed
invariant-loop-passed g l =
    (l.passed ≤ l.count) × ((b : List ℕ) × (length b ≡ l.passed) × Consumes (g.R.Read.remaining l.fn.input) (g.R.Read.remaining l.input) b)

abbrev pub decreases-loop-passed : goal.decreases-loop-passed
decreases-loop-passed g l = l.count - l.passed

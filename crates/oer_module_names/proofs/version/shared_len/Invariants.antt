use Rattle.std.proofs.Common.{◌≡◌, ◌≤◌, ◌-◌, length, drop}
use Rattle.oer_module_names.specs.Versions.{apart}
use Rattle.oer_module_names.proofs.version.shared_len.Given as goal

-- what is left is apart as all is
abbrev pub invariant-loop-shared : goal.invariant-loop-shared
invariant-loop-shared l = (apart l.asked l.has ≡ apart (drop l.shared l.asked) (drop l.shared l.has)) × (l.shared ≤ length l.asked) × (l.shared ≤ length l.has)

abbrev pub decreases-loop-shared : goal.decreases-loop-shared
decreases-loop-shared l = length l.asked - l.shared

use Rattle.std.proofs.Common.{◌≡◌, ◌+◌, ◌≤◌, drop}
use Rattle.oer_random.specs.Picked.{count_taken}
use Rattle.oer_random.proofs.choice.count_taken.Given as goal

abbrev pub invariant-loop-alternative : goal.invariant-loop-alternative
invariant-loop-alternative l = (l.count + count_taken l.any (drop l.alternative-index l.alternatives) ≡ count_taken l.any l.alternatives) × (l.count ≤ l.alternative-index)

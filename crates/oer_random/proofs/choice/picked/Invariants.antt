use Rattle.std.proofs.Common.{◌≡◌, drop}
use Rattle.oer_random.specs.Picked.{picked}
use Rattle.oer_random.proofs.choice.picked.Given as goal

abbrev pub invariant-loop-alternative : goal.invariant-loop-alternative
invariant-loop-alternative l = picked l.any l.left (drop l.alternative-index l.alternatives) ≡ picked l.any l.place l.alternatives

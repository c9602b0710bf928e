use Rattle.std.proofs.Common.{◌≡◌, drop}
use Rattle.oer_skeleton.specs.Seen.{first_taken}
use Rattle.oer_skeleton.proofs.legal.taken.Given as goal

abbrev pub invariant-loop-alt : goal.invariant-loop-alt
invariant-loop-alt l = first_taken l.any (drop l.alt-index l.root) ≡ first_taken l.any l.root

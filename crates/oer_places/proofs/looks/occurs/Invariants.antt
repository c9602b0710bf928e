use Rattle.std.proofs.Common.{◌≡◌, length}
use Rattle.oer_places.specs.Looks.{occurs}
use Rattle.oer_places.proofs.looks.occurs.Given as goal

abbrev pub invariant-loop-tail : goal.invariant-loop-tail
invariant-loop-tail l = occurs l.word l.text ≡ occurs l.word l.rest

abbrev pub decreases-loop-tail : goal.decreases-loop-tail
decreases-loop-tail l = length l.rest

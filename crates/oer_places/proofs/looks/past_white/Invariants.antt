use Rattle.std.proofs.Common.{◌≡◌, length}
use Rattle.oer_places.specs.Looks.{past_white}
use Rattle.oer_places.proofs.looks.past_white.Given as goal

abbrev pub invariant-loop-octet : goal.invariant-loop-octet
invariant-loop-octet l = past_white l.text ≡ past_white l.rest

abbrev pub decreases-loop-octet : goal.decreases-loop-octet
decreases-loop-octet l = length l.rest

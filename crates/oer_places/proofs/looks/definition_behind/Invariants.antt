use Rattle.std.proofs.Common.{◌≡◌, ◌+◌, length, false}
use Rattle.oer_places.specs.Looks.{definition_from}
use Rattle.oer_places.proofs.looks.definition_behind.Given as goal

abbrev pub invariant-loop-octet : goal.invariant-loop-octet
invariant-loop-octet l = (definition_from l.name false 0 l.text ≡ definition_from l.name l.inside l.count l.rest) × (l.count + length l.rest ≡ length l.text)

abbrev pub decreases-loop-octet : goal.decreases-loop-octet
decreases-loop-octet l = length l.rest

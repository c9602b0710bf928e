use Rattle.std.proofs.Common.{◌≡◌, drop}
use Rattle.oer_places.specs.Looks.{has_white}
use Rattle.oer_places.proofs.looks.has_white.Given as goal

abbrev pub invariant-loop-octet : goal.invariant-loop-octet
invariant-loop-octet l = has_white l.text ≡ has_white (drop l.octet-index l.text)

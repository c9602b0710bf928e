use Rattle.std.proofs.Common.{◌≡◌, drop}
use Rattle.oer_places.specs.Looks.{has_slash}
use Rattle.oer_places.proofs.looks.has_slash.Given as goal

abbrev pub invariant-loop-octet : goal.invariant-loop-octet
invariant-loop-octet l = has_slash l.text ≡ has_slash (drop l.octet-index l.text)

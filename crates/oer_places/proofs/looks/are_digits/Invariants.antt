use Rattle.std.proofs.Common.{◌≡◌, drop}
use Rattle.oer_places.specs.Looks.{are_digits}
use Rattle.oer_places.proofs.looks.are_digits.Given as goal

abbrev pub invariant-loop-octet : goal.invariant-loop-octet
invariant-loop-octet l = are_digits l.text ≡ are_digits (drop l.octet-index l.text)

use Rattle.std.proofs.Common.{◌≡◌, ◌++◌, drop}
use Rattle.oer_places.specs.Place.{first_line}
use Rattle.oer_places.proofs.place.first_line.Given as goal

abbrev pub invariant-loop-octet : goal.invariant-loop-octet
invariant-loop-octet l = first_line l.octets ≡ l.line.items ++ first_line (drop l.octet-index l.octets)

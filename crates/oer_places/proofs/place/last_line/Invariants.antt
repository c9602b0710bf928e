use Rattle.std.proofs.Common.{◌≡◌, drop}
use Rattle.oer_places.specs.Place.{last_line, line_from}
use Rattle.oer_places.proofs.place.last_line.Given as goal

abbrev pub invariant-loop-octet : goal.invariant-loop-octet
invariant-loop-octet l = last_line l.octets ≡ line_from l.line.items (drop l.octet-index l.octets)

use Rattle.std.proofs.Common.{◌≡◌, ◌+◌, ◌≤◌, drop}
use Rattle.oer_places.specs.Place.{line_feeds}
use Rattle.oer_places.proofs.place.line_feeds.Given as goal

abbrev pub invariant-loop-octet : goal.invariant-loop-octet
invariant-loop-octet l = (line_feeds l.octets ≡ l.count + line_feeds (drop l.octet-index l.octets)) × (l.count ≤ l.octet-index)

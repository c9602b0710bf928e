use Rattle.std.proofs.Common.{◌≡◌, ◌+◌, ◌≤◌, drop}
use Rattle.oer_places.specs.Place.{characters}
use Rattle.oer_places.proofs.place.characters.Given as goal

abbrev pub invariant-loop-octet : goal.invariant-loop-octet
invariant-loop-octet l = (characters l.octets ≡ l.count + characters (drop l.octet-index l.octets)) × (l.count ≤ l.octet-index)

use Rattle.std.proofs.Common.{◌≡◌, ◌≤◌, ◌+◌, ◌^◌, drop}
use Rattle.oer_units.specs.Numbers.{unsigned_after}
use Rattle.oer_units.proofs.reading.unsigned_of.Given as goal

abbrev pub invariant-loop-octet : goal.invariant-loop-octet
invariant-loop-octet l = record {
  room : l.number + 1 ≤ 256 ^ l.octet-index;
  same : unsigned_after l.number (drop l.octet-index l.octets) ≡ unsigned_after 0 l.octets;
}

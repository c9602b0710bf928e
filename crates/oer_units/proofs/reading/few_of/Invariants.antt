use Rattle.std.proofs.Common.{◌≡◌, ◌≤◌, ◌+◌, ◌*◌, ◌^◌, drop}
use Rattle.oer_units.specs.ReadingSteps.{size_after}
use Rattle.oer_units.proofs.reading.few_of.Given as goal

abbrev pub invariant-loop-octet : goal.invariant-loop-octet
invariant-loop-octet l = record {
  room : l.size + 1 ≤ (l.value + 1) * 256 ^ l.octet-index;
  same : size_after l.is_below l.size (drop l.octet-index l.octets) ≡ size_after l.is_below l.value l.octets;
}

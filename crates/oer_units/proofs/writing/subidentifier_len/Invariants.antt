use Rattle.std.proofs.Common.{◌≡◌, ◌≤◌, ◌<◌, ◌+◌, ◌-◌, ◌^◌, length}
use Rattle.oer_units.specs.Least.{base128_octets}
use Rattle.oer_units.proofs.WrittenDigits.{upper}
use Rattle.oer_units.proofs.writing.subidentifier_len.Given as goal

abbrev pub invariant-loop-rest : goal.invariant-loop-rest
invariant-loop-rest l = record {
  room : l.count ≤ 19;
  fits : l.rest < 128 ^ (19 - l.count);
  octets : l.count + length (upper l.rest) ≡ length (base128_octets l.value);
}

abbrev pub decreases-loop-rest : goal.decreases-loop-rest
decreases-loop-rest l = l.rest

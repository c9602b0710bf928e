use Rattle.std.proofs.Common.{◌≡◌, ◌≤◌, ◌<◌, ◌-◌, ◌^◌, ◌++◌, length, drop}
use Rattle.oer_units.specs.Least.{base128_octets}
use Rattle.oer_units.proofs.WrittenDigits.{upper}
use Rattle.oer_units.proofs.writing.fill_digits.Given as goal

abbrev pub invariant-loop-rest : goal.invariant-loop-rest
invariant-loop-rest l = record {
  size : length l.buffer ≡ 20;
  room : l.at ≤ 19;
  some : 1 ≤ l.at;
  fits : l.rest < 128 ^ (l.at - 1);
  octets : upper l.rest ++ drop l.at l.buffer ≡ base128_octets l.n;
}

abbrev pub decreases-loop-rest : goal.decreases-loop-rest
decreases-loop-rest l = l.rest

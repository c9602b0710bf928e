use Rattle.std.proofs.Common.{◌≡◌, ◌≤◌, ◌<◌, ◌^◌, ◌++◌, length, drop}
use Rattle.oer_units.proofs.WrittenDigits.{upper}
use Rattle.oer_leaves.proofs.leaf.fill_upper.Given as goal

abbrev pub invariant-loop-rest : goal.invariant-loop-rest
invariant-loop-rest l = record {
  size : length l.buffer ≡ 20;
  room : l.at ≤ 19;
  fits : l.rest < 128 ^ l.at;
  octets : upper l.rest ++ drop l.at l.buffer ≡ upper l.n ++ drop 19 l.fn.buffer;
}

abbrev pub decreases-loop-rest : goal.decreases-loop-rest
decreases-loop-rest l = l.rest

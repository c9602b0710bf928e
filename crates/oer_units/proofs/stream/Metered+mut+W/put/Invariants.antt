use Rattle.std.proofs.Common.{length, take, ◌-◌, ◌≡◌, ◌≤◌}
use Rattle.std.specs.Io.KnownBytes.{Appends}
use Rattle.oer_units.proofs.stream.Metered+mut+W.put.Given as goal

abbrev pub invariant-loop-at : goal.invariant-loop-at
invariant-loop-at g l = record {
  within : l.at ≤ length l.octets;
  same : l.self.inner.ghost_name ≡ l.fn.self.inner.ghost_name;
  appends : Appends (g.W.Write.contents l.fn.self.inner.now) (g.W.Write.contents l.self.inner.now) (take l.at l.octets);
  count : l.self.count ≡ l.fn.self.count;
}

abbrev pub decreases-loop-at : goal.decreases-loop-at
decreases-loop-at g l = length l.octets - l.at

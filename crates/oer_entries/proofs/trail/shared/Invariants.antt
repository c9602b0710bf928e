use Rattle.std.proofs.Common.{◌≡◌, ◌+◌, drop, map}
use Rattle.oer_entries.specs.Frames.{seen}
use Rattle.oer_entries.specs.Trails.{common}
use Rattle.oer_entries.proofs.trail.shared.Given as goal

abbrev pub invariant-loop-step : goal.invariant-loop-step
invariant-loop-step l = record {
  count : l.count ≡ l.step-index + 1;
  is : common (drop l.count (map seen l.frames)) (drop l.step-index l.path) + l.count ≡ common (drop 1 (map seen l.frames)) l.path + 1;
}

use Rattle.std.proofs.Common.{◌≡◌, ◌+◌, ◌≤◌, drop}
use Rattle.oer_module_types.specs.Levels.{times}
use Rattle.oer_module_types.proofs.level.times.Given as goal

-- as often as so far, and on what is left
abbrev pub invariant-loop-step : goal.invariant-loop-step
invariant-loop-step l = record {
  all : l.count + times l.place (drop l.step-index l.path) ≡ times l.place l.path;
  most : l.count ≤ l.step-index;
}

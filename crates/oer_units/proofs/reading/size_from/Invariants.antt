use Rattle.std.proofs.Common.{◌≤◌, ◌-◌, ◌+◌, ◌*◌, ◌^◌}
use Rattle.oer_units.specs.Reader.{group}
use Rattle.oer_units.specs.Fixed.{group_as}
use Rattle.oer_units.specs.ReadingSteps.{size_after}
use Rattle.oer_units.specs.Reads.{state, bound_of, left_of, Keeps, Leads}
use Rattle.oer_units.proofs.reading.size_from.Given as goal

abbrev pub invariant-loop-step : goal.invariant-loop-step
invariant-loop-step g l =
    let now = state g.R.Source.loan g.R.Source.remaining g.R.Source.failed in
    record {
      room : l.count - l._step ≤ left_of (bound_of l.w);
      bound : Keeps (bound_of l.fn.w) (bound_of l.w);
      size : l.size + 1 ≤ (l.value + 1) * 256 ^ l._step;
      leads : Leads (group (l.count - l._step)) (now l.w) (size_after l.is_below l.size) (group_as l.count (size_after l.is_below l.value)) (now l.fn.w);
    }

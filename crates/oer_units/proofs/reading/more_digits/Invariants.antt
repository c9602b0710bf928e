use Rattle.std.proofs.Common.{◌≡◌, ◌+◌, ◌-◌, ◌*◌}
use Rattle.oer_units.specs.ReadingSteps.{digits_within}
use Rattle.oer_units.specs.Reads.{state, bound_of, Keeps, Leads}
use Rattle.oer_units.proofs.reading.more_digits.Given as goal

abbrev pub invariant-loop-step : goal.invariant-loop-step
invariant-loop-step g l =
    let now = state g.R.Source.loan g.R.Source.remaining g.R.Source.failed in
    record {
      bound : Keeps (bound_of l.fn.w) (bound_of l.w);
      taken : (bound_of l.w).taken ≡ (bound_of l.fn.w).taken + l._step;
      leads : Leads (digits_within l.why ((l.most + 1) * 128) (l.count - l._step) l.number) (now l.w) (λ y. (y.0, y.1 + l._step)) (digits_within l.why ((l.most + 1) * 128) l.count l.fn.high) (now l.fn.w);
    }

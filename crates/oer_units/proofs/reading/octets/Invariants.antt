use Rattle.std.proofs.Common.{◌≤◌, ◌-◌, ◌++◌, vec_len}
use Rattle.oer_units.specs.Reader.{group}
use Rattle.oer_units.specs.Reads.{state, bound_of, left_of, Keeps, Leads}
use Rattle.oer_units.proofs.reading.octets.Given as goal

abbrev pub invariant-loop-octets : goal.invariant-loop-octets
invariant-loop-octets g l =
    let now = state g.R.Source.loan g.R.Source.remaining g.R.Source.failed in
    record {
      most : vec_len l.octets ≤ l.fn.n;
      room : l.fn.n - vec_len l.octets ≤ left_of (bound_of l.w);
      bound : Keeps (bound_of l.fn.w) (bound_of l.w);
      leads : Leads (group (l.fn.n - vec_len l.octets)) (now l.w) (λ w. l.octets.items ++ w) (group l.fn.n) (now l.fn.w);
    }

abbrev pub decreases-loop-octets : goal.decreases-loop-octets
decreases-loop-octets g l = l.fn.n - vec_len l.octets

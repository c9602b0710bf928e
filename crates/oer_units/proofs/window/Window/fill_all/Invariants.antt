use Rattle.std.proofs.Common.{◌≡◌, ◌≤◌, ◌-◌, ◌+◌, ◌++◌, length, take}
use Rattle.oer_units.specs.Reader.{group}
use Rattle.oer_units.specs.Reads.{state, bound_of, left_of, Keeps, Leads}
use Rattle.oer_units.proofs.window.Window.fill_all.Given as goal

abbrev pub invariant-loop-at : goal.invariant-loop-at
invariant-loop-at g l =
    let now = state g.R.Source.loan g.R.Source.remaining g.R.Source.failed in
    record {
      within : l.at ≤ length l.into;
      len : length l.into ≡ length l.fn.into;
      room : length l.into - l.at ≤ left_of (bound_of l.self);
      bound : Keeps (bound_of l.fn.self) (bound_of l.self);
      taken : (bound_of l.self).taken ≡ (bound_of l.fn.self).taken + l.at;
      leads : Leads (group (length l.into - l.at)) (now l.self) (λ w. take l.at l.into ++ w) (group (length l.fn.into)) (now l.fn.self);
    }

abbrev pub decreases-loop-at : goal.decreases-loop-at
decreases-loop-at g l = length l.initial.into - l.at

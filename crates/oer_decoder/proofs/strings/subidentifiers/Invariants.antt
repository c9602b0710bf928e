use Rattle.std.proofs.Common.{◌-◌, ◌≤◌, ◌++◌}
use Rattle.oer_units.specs.Reading.{subidentifiers}
use Rattle.oer_units.specs.Reads.{Leads, bound_of, state}
use Rattle.oer_decoder.proofs.strings.subidentifiers.Given as goal

abbrev pub invariant-loop-turn : goal.invariant-loop-turn
invariant-loop-turn g l =
    let now = state g.R.Source.loan g.R.Source.remaining g.R.Source.failed in
    record {
      room : l.end ≤ (bound_of l.w).end;
      leads : Leads (subidentifiers (l.content - l.turn) (l.end - (bound_of l.w).taken)) (now l.w) (λ xs. l.numbers.items ++ xs) (subidentifiers l.content l.content) (now l.fn.w);
    }

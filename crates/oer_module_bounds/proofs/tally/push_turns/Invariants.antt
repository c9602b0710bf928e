use Rattle.std.proofs.Common.{◌≡◌, ◌++◌, drop}
use Rattle.oer_module_bounds.specs.Tally.{turns_of}
use Rattle.oer_module_bounds.proofs.tally.push_turns.Given as goal

abbrev pub invariant-loop-cut : goal.invariant-loop-cut
invariant-loop-cut l = l.initial.turns.items ++ turns_of l.initial.inside l.cuts ≡ l.turns.items ++ turns_of l.inside (drop l.cut-index l.cuts)

use Rattle.oer_module_bounds.specs.Tally.{sweep_of}
use Rattle.oer_module_bounds.proofs.Sweeping.{Turning}
use Rattle.oer_module_bounds.proofs.tally.Sweep.pass_all.Given as goal

abbrev pub invariant-loop-turn : goal.invariant-loop-turn
invariant-loop-turn l = Turning l.least (sweep_of l.initial.self) (sweep_of l.self) l.turns l.turn-index

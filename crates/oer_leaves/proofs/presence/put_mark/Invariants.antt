use Rattle.std.proofs.Common.{◌-◌, replicate, false, true, ◌++◌, ◌∷◌, []}
use Rattle.oer_leaves.proofs.PackSteps.{Through}
use Rattle.oer_leaves.proofs.presence.put_mark.Given as goal

abbrev pub invariant-loop : goal.invariant-loop
invariant-loop g l = Through l.fn.done (replicate l.count false ++ true ∷ []) l.fn.packer (g.W.Sink.contents l.fn.sink) (g.W.Sink.failed l.fn.sink) l.sum (g.W.Sink.contents l.sink) (g.W.Sink.failed l.sink) l.packer (replicate (l.count - l.counter) false ++ true ∷ [])

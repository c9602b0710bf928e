use Rattle.std.proofs.Common.{drop}
use Rattle.oer_units.specs.Least.{subidentifier_octets}
use Rattle.oer_leaves.specs.Wrote.{Ahead}
use Rattle.oer_leaves.proofs.leaf.put_arcs.Given as goal

abbrev pub invariant-loop-arc : goal.invariant-loop-arc
invariant-loop-arc g l = Ahead l.fn.done (subidentifier_octets l.arcs) (g.W.Sink.contents l.fn.sink) (g.W.Sink.failed l.fn.sink) l.done (g.W.Sink.contents l.sink) (g.W.Sink.failed l.sink) (subidentifier_octets (drop l.arc-index l.arcs))

use Rattle.std.proofs.Common.{drop, map}
use Rattle.oer_model.specs.Canonical.{unknown_octets}
use Rattle.oer_values.specs.ValueView.{unknown_of}
use Rattle.oer_leaves.specs.Wrote.{Ahead}
use Rattle.oer_leaves.proofs.presence.put_unknown.Given as goal

abbrev pub invariant-loop-one : goal.invariant-loop-one
invariant-loop-one g l = Ahead l.fn.done (unknown_octets (map unknown_of l.unknown)) (g.W.Sink.contents l.fn.sink) (g.W.Sink.failed l.fn.sink) l.done (g.W.Sink.contents l.sink) (g.W.Sink.failed l.sink) (unknown_octets (map unknown_of (drop l.one-index l.unknown)))

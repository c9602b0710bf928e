use Rattle.std.proofs.Common.{drop, map}
use Rattle.oer_model.specs.Canonical.{unknown_marks}
use Rattle.oer_values.specs.ValueView.{unknown_of}
use Rattle.oer_leaves.proofs.PackSteps.{Through}
use Rattle.oer_leaves.proofs.presence.put_unknown_bits.Given as goal

abbrev pub invariant-loop-one : goal.invariant-loop-one
invariant-loop-one g l = Through l.fn.done (unknown_marks l.fn.next (map unknown_of l.unknown)) l.fn.packer (g.W.Sink.contents l.fn.sink) (g.W.Sink.failed l.fn.sink) l.done (g.W.Sink.contents l.sink) (g.W.Sink.failed l.sink) l.packer (unknown_marks l.next (map unknown_of (drop l.one-index l.unknown)))

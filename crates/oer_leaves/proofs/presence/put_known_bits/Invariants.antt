use Rattle.std.proofs.Common.{drop}
use Rattle.oer_values.specs.ShapeView.{additions_of}
use Rattle.oer_values.specs.ValueView.{places_of}
use Rattle.oer_leaves.specs.Parts.{known_bits}
use Rattle.oer_leaves.proofs.PackSteps.{Through}
use Rattle.oer_leaves.proofs.presence.put_known_bits.Given as goal

abbrev pub invariant-loop : goal.invariant-loop
invariant-loop g l = Through l.fn.done (known_bits (additions_of l.additions) (places_of l.places)) l.fn.packer (g.W.Sink.contents l.fn.sink) (g.W.Sink.failed l.fn.sink) l.done (g.W.Sink.contents l.sink) (g.W.Sink.failed l.sink) l.packer (known_bits (additions_of (drop l.index l.additions)) (places_of l.rest))

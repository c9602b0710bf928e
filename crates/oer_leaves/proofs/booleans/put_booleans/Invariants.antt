use Rattle.std.proofs.Common.{drop}
use Rattle.oer_model.specs.AsnType.{boolean}
use Rattle.oer_values.specs.ValueView.{values_of}
use Rattle.oer_leaves.specs.Parts.{values_octets}
use Rattle.oer_leaves.specs.Wrote.{Ahead}
use Rattle.oer_leaves.proofs.booleans.put_booleans.Given as goal

abbrev pub invariant-loop-value : goal.invariant-loop-value
invariant-loop-value g l = Ahead l.fn.done (values_octets boolean (values_of l.values)) (g.W.Sink.contents l.fn.sink) (g.W.Sink.failed l.fn.sink) l.done (g.W.Sink.contents l.sink) (g.W.Sink.failed l.sink) (values_octets boolean (values_of (drop l.value-index l.values)))

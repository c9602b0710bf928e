use Rattle.std.proofs.Common.{drop, map}
use Rattle.oer_values.specs.ValueView.{unknown_of}
use Rattle.oer_writer.proofs.Bounds.{LeftUnknown}
use Rattle.oer_writer.proofs.bound.bound_unknown.Given as goal

abbrev pub invariant-loop-one : goal.invariant-loop-one
invariant-loop-one l = LeftUnknown l.fn.done (map unknown_of l.unknown) l.done (map unknown_of (drop l.one-index l.unknown))

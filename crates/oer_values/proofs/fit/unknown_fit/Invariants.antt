use Rattle.std.proofs.Common.{◌≡◌, ◌<◌, ◌^◌, drop, map}
use Rattle.oer_model.specs.FitTest.{unknown_fit}
use Rattle.oer_values.specs.ValueView.{unknown_of}
use Rattle.oer_values.proofs.fit.unknown_fit.Given as goal

abbrev pub invariant-loop-one : goal.invariant-loop-one
invariant-loop-one l = record {
  room : l.lowest < 2 ^ 63;
  left : unknown_fit l.lowest (map unknown_of (drop l.one-index l.unknown)) ≡ unknown_fit l.fn.lowest (map unknown_of l.unknown);
}

use Rattle.std.proofs.Common.{map}
use Rattle.oer_notation.specs.Defining.{HaveSameTypes, known_of}
use Rattle.oer_notation.specs.Views.{HasAllTypes, known_by}
use Rattle.oer_notation.proofs.types.Types.of.Given as goal

abbrev pub invariant-loop-definition : goal.invariant-loop-definition
invariant-loop-definition l = record {
  same : HaveSameTypes (known_by l.known) (map known_of l.yielded);
  whole : HasAllTypes l.known;
}

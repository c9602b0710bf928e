use Rattle.std.proofs.Common.{◌≡◌, ◌+◌, ◌*◌, ◌≤◌, drop, length, map}
use Rattle.oer_model.specs.Canonical.{unknown_marks}
use Rattle.oer_values.specs.ValueView.{unknown_of}
use Rattle.oer_leaves.proofs.presence.count_unknown_bits.Given as goal

abbrev pub invariant-loop-one : goal.invariant-loop-one
invariant-loop-one l = record {
  count : l.count + length (unknown_marks l.next (map unknown_of (drop l.one-index l.unknown))) ≡ length (unknown_marks l.fn.next (map unknown_of l.unknown));
  most : l.count ≤ 65536 * l.one-index;
}

use Rattle.std.proofs.Common.{◌≡◌, ◌+◌, length, drop}
use Rattle.oer_model.specs.AsnType.{boolean}
use Rattle.oer_values.specs.ValueView.{values_of}
use Rattle.oer_leaves.specs.Parts.{values_octets}
use Rattle.oer_leaves.proofs.booleans.measured_booleans.Given as goal

abbrev pub invariant-loop-value : goal.invariant-loop-value
invariant-loop-value l = l.done + length (values_octets boolean (values_of (drop l.value-index l.values))) ≡ l.fn.done + length (values_octets boolean (values_of l.values))

use Rattle.std.proofs.Common.{◌≡◌, length, map}
use Rattle.oer_model.specs.FaultTest.{numbers_repeat}
use Rattle.oer_values.specs.ShapeView.{named_number}
use Rattle.oer_types.proofs.rule.any_number_repeats.Given as goal

abbrev pub invariant-loop-item : goal.invariant-loop-item
invariant-loop-item l = numbers_repeat (map named_number l.rest) ≡ numbers_repeat (map named_number l.items)

abbrev pub decreases-loop-item : goal.decreases-loop-item
decreases-loop-item l = length l.rest

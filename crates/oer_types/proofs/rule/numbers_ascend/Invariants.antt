use Rattle.std.proofs.Common.{◌≡◌, drop, map}
use Rattle.oer_values.specs.ShapeView.{named_number}
use Rattle.oer_types.specs.Ascending.{ascend_after}
use Rattle.oer_types.proofs.rule.numbers_ascend.Given as goal

abbrev pub invariant-loop-item : goal.invariant-loop-item
invariant-loop-item l = ascend_after l.last (map named_number (drop l.item-index l.more)) ≡ ascend_after l.initial.last (map named_number l.more)

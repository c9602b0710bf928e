use Rattle.std.proofs.Common.{◌≡◌, length, map}
use Rattle.oer_model.specs.FaultTest.{names_repeat}
use Rattle.oer_values.specs.ShapeView.{named_number}
use Rattle.oer_model.specs.WellFormed.{item_names}
use Rattle.oer_types.proofs.name.few_item_names_repeat.Given as goal

abbrev pub invariant-loop-item : goal.invariant-loop-item
invariant-loop-item l = names_repeat (item_names (map named_number l.rest)) ≡ names_repeat (item_names (map named_number l.items))

abbrev pub decreases-loop-item : goal.decreases-loop-item
decreases-loop-item l = length l.rest

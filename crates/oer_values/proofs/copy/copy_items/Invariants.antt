use Rattle.std.proofs.Common.{◌≡◌, take, map}
use Rattle.oer_values.specs.ShapeView.{named_number}
use Rattle.oer_values.proofs.copy.copy_items.Given as goal

abbrev pub invariant-loop-item : goal.invariant-loop-item
invariant-loop-item l = map named_number l.copies.items ≡ map named_number (take l.item-index l.items)

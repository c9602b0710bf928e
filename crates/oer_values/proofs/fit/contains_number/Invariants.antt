use Rattle.std.proofs.Common.{◌≡◌, drop, map}
use Rattle.oer_model.specs.Constraints.{has_number}
use Rattle.oer_values.specs.ShapeView.{named_number}
use Rattle.oer_values.proofs.fit.contains_number.Given as goal

abbrev pub invariant-loop-item : goal.invariant-loop-item
invariant-loop-item l = has_number (map named_number (drop l.item-index l.items)) l.number ≡ has_number (map named_number l.items) l.number

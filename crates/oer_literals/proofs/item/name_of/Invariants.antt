use Rattle.std.proofs.Common.{◌≡◌, map, drop}
use Rattle.oer_values.specs.ShapeView.{named_number}
use Rattle.oer_literals.specs.Items.{name_of}
use Rattle.oer_literals.proofs.item.name_of.Given as goal

-- the number isn't among those before
abbrev pub invariant-loop-item : goal.invariant-loop-item
invariant-loop-item l = name_of (map named_number l.items) l.number ≡ name_of (map named_number (drop l.item-index l.items)) l.number

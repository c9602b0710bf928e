use Rattle.std.proofs.Common.{◌≡◌, map, drop}
use Rattle.oer_values.specs.ShapeView.{named_number}
use Rattle.oer_literals.specs.Items.{number_named}
use Rattle.oer_literals.proofs.item.number_named.Given as goal

-- the name isn't among those before
abbrev pub invariant-loop-item : goal.invariant-loop-item
invariant-loop-item l = number_named (map named_number l.items) l.name ≡ number_named (map named_number (drop l.item-index l.items)) l.name

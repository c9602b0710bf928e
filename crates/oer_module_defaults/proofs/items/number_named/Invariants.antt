use Rattle.std.proofs.Common.{◌≡◌, map, drop}
use Rattle.oer_module_leaves.specs.Numbered.{item_of}
use Rattle.oer_module_defaults.specs.Items.{number_named}
use Rattle.oer_module_defaults.proofs.items.number_named.Given as goal

-- none before has the name
abbrev pub invariant-loop-item : goal.invariant-loop-item
invariant-loop-item l = number_named l.name (map item_of l.items) ≡ number_named l.name (map item_of (drop l.item-index l.items))

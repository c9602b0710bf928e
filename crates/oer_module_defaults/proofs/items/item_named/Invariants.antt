use Rattle.std.proofs.Common.{◌≡◌, map, drop}
use Rattle.oer_module_terms.specs.Trees.{item_of}
use Rattle.oer_module_values.specs.Numbers.{item_named}
use Rattle.oer_module_defaults.proofs.items.item_named.Given as goal

-- none before has the name
abbrev pub invariant-loop-item : goal.invariant-loop-item
invariant-loop-item l = item_named l.name (map item_of l.items) ≡ item_named l.name (map item_of (drop l.item-index l.items))

use Rattle.std.proofs.Common.{◌≡◌, ◌++◌, Ok, map, drop}
use Rattle.oer_module_text.specs.Errors.{◌>>=◌}
use Rattle.oer_values.specs.ShapeView.{named_number}
use Rattle.oer_module_leaves.specs.Numbered.{item_of}
use Rattle.oer_module_leaves.specs.Shapes.{named_items}
use Rattle.oer_module_leaves.proofs.shape.named_items.Given as goal

-- the items made and those of what is left are all of them
abbrev pub invariant-loop-item : goal.invariant-loop-item
invariant-loop-item l =
    named_items l.«module» (map item_of l.items)
    ≡ (named_items l.«module» (map item_of (drop l.item-index l.items)) >>= λ ns. Ok (map named_number l.named.items ++ ns))

use Rattle.std.proofs.Common.{◌≡◌, ◌++◌, drop, map}
use Rattle.oer_model.specs.WellFormed.{item_names}
use Rattle.oer_values.specs.ShapeView.{named_number}
use Rattle.oer_explain.specs.JsonNames.{texts_behind}
use Rattle.oer_explain.proofs.json_names.item_names.Given as goal

-- what is there and what is left are the whole
abbrev pub invariant-loop-item : goal.invariant-loop-item
invariant-loop-item l = item_names (map named_number l.items) ≡ texts_behind l.names.items ++ item_names (map named_number
    (drop l.item-index l.items))

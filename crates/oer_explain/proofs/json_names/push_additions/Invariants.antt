use Rattle.std.proofs.Common.{◌≡◌, ◌++◌, drop}
use Rattle.oer_model.specs.WellFormed.{addition_names}
use Rattle.oer_values.specs.ShapeView.{additions_of}
use Rattle.oer_explain.specs.JsonNames.{texts_behind}
use Rattle.oer_explain.proofs.json_names.push_additions.Given as goal

-- what is there and what is left are the whole
abbrev pub invariant-loop-addition : goal.invariant-loop-addition
invariant-loop-addition l = texts_behind l.fn.names.items ++ addition_names (additions_of l.additions)
    ≡ texts_behind l.names.items ++ addition_names (additions_of (drop l.addition-index l.additions))

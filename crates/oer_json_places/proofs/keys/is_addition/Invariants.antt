use Rattle.std.proofs.Common.{◌≡◌, drop}
use Rattle.oer_values.specs.ShapeView.{additions_of}
use Rattle.oer_model.specs.WellFormed.{addition_names}
use Rattle.oer_json.specs.Keys.{is_among}
use Rattle.oer_json_places.proofs.keys.is_addition.Given as goal

-- the key isn't among the names before
abbrev pub invariant-loop-addition : goal.invariant-loop-addition
invariant-loop-addition l = is_among (addition_names (additions_of l.additions)) l.key ≡ is_among (addition_names (additions_of
    (drop l.addition-index l.additions))) l.key

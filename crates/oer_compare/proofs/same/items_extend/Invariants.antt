use Rattle.std.proofs.Common.{◌≡◌, drop, map}
use Rattle.oer_values.specs.ShapeView.{named_number}
use Rattle.oer_compare.specs.Difference.{items_extend}
use Rattle.oer_compare.proofs.same.items_extend.Given as goal

-- what is left of both says the same as both
abbrev pub invariant-loop-one : goal.invariant-loop-one
invariant-loop-one l =
    items_extend l.marker (map named_number (drop l.one-index l.ones)) (map named_number l.rest)
    ≡ items_extend l.marker (map named_number l.ones) (map named_number l.others)

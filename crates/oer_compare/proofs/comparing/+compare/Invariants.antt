use Rattle.std.proofs.Common.{◌≡◌, drop}
use Rattle.oer_values.specs.ShapeView.{additions_of, fields_of}
use Rattle.oer_compare.specs.Difference.{additions_differ, fields_differ}
use Rattle.oer_compare.specs.Views.{alts_differ}
use Rattle.oer_compare.proofs.comparing.+compare.Given as goal

-- what differs in what is left of both, differs first in both
abbrev pub invariant-fields-loop-index : goal.invariant-fields-loop-index
invariant-fields-loop-index l =
    fields_differ l.index (fields_of (drop l.index l.ones)) (fields_of l.rest) ≡ fields_differ 0 (fields_of l.ones) (fields_of l.others)

abbrev pub invariant-known-loop-index : goal.invariant-known-loop-index
invariant-known-loop-index l =
    additions_differ l.index (additions_of (drop l.index l.ones)) (additions_of l.rest)
    ≡ additions_differ 0 (additions_of l.ones) (additions_of l.others)

abbrev pub invariant-alternatives-loop-one : goal.invariant-alternatives-loop-one
invariant-alternatives-loop-one l = alts_differ l.grows (drop l.one-index l.ones) l.rest ≡ alts_differ l.grows l.ones l.others

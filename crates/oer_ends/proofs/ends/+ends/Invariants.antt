use Rattle.std.proofs.Common.{◌≡◌, drop}
use Rattle.oer_model.specs.AsnType.{no_alternatives}
use Rattle.oer_values.specs.ShapeView.{fields_of, additions_of, root_of}
use Rattle.oer_ends.specs.Ends.{additions_have_end, alternatives_have_end, fields_have_end}
use Rattle.oer_ends.proofs.ends.+ends.Given as goal

abbrev pub invariant-fields_have_end-loop-field : goal.invariant-fields_have_end-loop-field
invariant-fields_have_end-loop-field l = fields_have_end (fields_of (drop l.field-index l.fields)) ≡ fields_have_end (fields_of l.fields)

abbrev pub invariant-additions_have_end-loop-addition : goal.invariant-additions_have_end-loop-addition
invariant-additions_have_end-loop-addition l = additions_have_end (additions_of (drop l.addition-index l.additions)) ≡ additions_have_end (additions_of l.additions)

abbrev pub invariant-alternatives_have_end-loop-alt : goal.invariant-alternatives_have_end-loop-alt
invariant-alternatives_have_end-loop-alt l = alternatives_have_end (root_of (drop l.alt-index l.alts) no_alternatives) ≡ alternatives_have_end (root_of l.alts no_alternatives)

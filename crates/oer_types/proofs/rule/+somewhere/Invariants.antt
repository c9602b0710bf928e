use Rattle.std.proofs.Common.{◌≡◌, drop}
use Rattle.oer_model.specs.AsnType.{no_alternatives}
use Rattle.oer_model.specs.FaultTest.{in_additions, in_alternatives, in_fields}
use Rattle.oer_values.specs.ShapeView.{fields_of, additions_of, root_of}
use Rattle.oer_types.specs.AnyFault.{is_sought}
use Rattle.oer_types.proofs.rule.+somewhere.Given as goal

abbrev pub invariant-is_in_fields-loop-field : goal.invariant-is_in_fields-loop-field
invariant-is_in_fields-loop-field l = in_fields (is_sought l.sought) (fields_of (drop l.field-index l.fields)) ≡ in_fields (is_sought l.sought) (fields_of l.fields)

abbrev pub invariant-is_in_additions-loop-addition : goal.invariant-is_in_additions-loop-addition
invariant-is_in_additions-loop-addition l = in_additions (is_sought l.sought) (additions_of (drop l.addition-index l.additions)) ≡ in_additions (is_sought l.sought) (additions_of l.additions)

abbrev pub invariant-is_in_alternatives-loop-alt : goal.invariant-is_in_alternatives-loop-alt
invariant-is_in_alternatives-loop-alt l = in_alternatives (is_sought l.sought) (root_of (drop l.alt-index l.alts) no_alternatives) ≡ in_alternatives (is_sought l.sought) (root_of l.alts no_alternatives)

use Rattle.std.proofs.Common.{◌≡◌, ◌+◌, drop}
use Rattle.oer_model.specs.AsnType.{no_alternatives}
use Rattle.oer_model.specs.Nodes.{additions_nodes, alternatives_nodes, fields_nodes}
use Rattle.oer_model.specs.Widths.{AdditionsHaveWidths, AlternativesHaveWidths, FieldsHaveWidths}
use Rattle.oer_values.specs.ShapeView.{additions_of, fields_of, root_of}
use Rattle.oer_types.proofs.counting.+counting.Given as goal

-- what is left to count, and that all keeps its widths where what is left does
abbrev pub invariant-fields_left-loop-field : goal.invariant-fields_left-loop-field
invariant-fields_left-loop-field l = record {
  count : l.left + fields_nodes (fields_of l.fields) ≡ l.fn.left + fields_nodes (fields_of (drop l.field-index l.fields));
  widths : FieldsHaveWidths (fields_of (drop l.field-index l.fields)) → FieldsHaveWidths (fields_of l.fields);
}

abbrev pub invariant-additions_left-loop-addition : goal.invariant-additions_left-loop-addition
invariant-additions_left-loop-addition l = record {
  count : l.left + additions_nodes (additions_of l.additions) ≡ l.fn.left + additions_nodes (additions_of (drop l.addition-index l.additions));
  widths : AdditionsHaveWidths (additions_of (drop l.addition-index l.additions)) → AdditionsHaveWidths (additions_of l.additions);
}

abbrev pub invariant-alternatives_left-loop-alt : goal.invariant-alternatives_left-loop-alt
invariant-alternatives_left-loop-alt l = record {
  count : l.left + alternatives_nodes (root_of l.alts no_alternatives) ≡ l.fn.left + alternatives_nodes (root_of (drop l.alt-index l.alts) no_alternatives);
  widths : AlternativesHaveWidths (root_of (drop l.alt-index l.alts) no_alternatives) → AlternativesHaveWidths (root_of l.alts no_alternatives);
}

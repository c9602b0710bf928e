use Rattle.std.proofs.Common.{◌≡◌, drop}
use Rattle.oer_model.specs.AsnType.{no_alternatives}
use Rattle.oer_values.specs.ShapeView.{fields_of, root_of}
use Rattle.oer_skeleton.specs.Skeleton.{any_legal, are_legal}
use Rattle.oer_skeleton.proofs.legal.+legal.Given as goal

abbrev pub invariant-are_legal-loop-field : goal.invariant-are_legal-loop-field
invariant-are_legal-loop-field l = are_legal (fields_of (drop l.field-index l.fields)) ≡ are_legal (fields_of l.fields)

abbrev pub invariant-any_legal-loop-alt : goal.invariant-any_legal-loop-alt
invariant-any_legal-loop-alt l = any_legal (root_of (drop l.alt-index l.root) no_alternatives) ≡ any_legal (root_of l.root no_alternatives)

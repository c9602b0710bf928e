use Rattle.oer_cmd.specs.Answer.{expected_type}
use Rattle.oer_cmd.specs.Types.{texts_at}
use Rattle.oer_cmd.proofs.Endings.{keeps_same}
use Rattle.oer_values.specs.ShapeView.{type_of}
use Rattle.oer_compare_cmd.specs.Line.{compare_of}
use Rattle.oer_compare_cmd.proofs.Endings.{refused_next}
use Rattle.oer_compare_cmd.proofs.run.run_other.Goals as goal

pub returns-in-Err-clause-ends : goal.returns-in-Err-clause-ends
returns-in-Err-clause-ends g c =
    refused_next type_of (expected_type (texts_at c.args.text)) (compare_of (type_of c.args.old.now)) c.in-Err.fault c.report.result _
    c.in-Err.ensures c.report.ensures.line (keeps_same (g.W.Write.contents c.args.output.now))

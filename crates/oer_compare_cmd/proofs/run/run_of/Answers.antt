use Rattle.oer_cmd.specs.Answer.{expected_type}
use Rattle.oer_cmd.specs.Types.{texts_at}
use Rattle.oer_cmd.proofs.Endings.{keeps_same}
use Rattle.oer_options.specs.Words.{behind}
use Rattle.oer_values.specs.ShapeView.{type_of}
use Rattle.oer_compare_cmd.specs.Ending.{other_answer}
use Rattle.oer_compare_cmd.proofs.Endings.{refused_next}
use Rattle.oer_compare_cmd.proofs.run.run_of.Goals as goal

pub returns-in-Err-clause-ends : goal.returns-in-Err-clause-ends
returns-in-Err-clause-ends g c =
    let t = texts_at c.args.text in
    refused_next type_of (expected_type t) (other_answer t (behind c.args.asked.with) (behind c.args.asked.with_types)) c.in-Err.fault
    c.report.result _ c.in-Err.ensures c.report.ensures.line (keeps_same (g.W.Write.contents c.args.output.now))
